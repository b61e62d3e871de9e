-- With which numbers a text is refused: 14, or 2 for a limit. Assumes nothing.
use Rattle.std.specs.Prelude.{◌≡◌, refl, ◌⊎◌, Bool, true, false, cond, List, [], ◌∷◌, ◌++◌, ℕ, zero, suc, eqb}
use Rattle.std.proofs.Common.{◌∙◌, inl, inr, arith}
use Rattle.paper.specs.Basics.{null}
use Rattle.paper.specs.Dtd.Letters.{Name, is_white, is_first, is_more, begins, comma, bar, opening, closing, greater, hyphen, word_empty, word_text, word_cdata, word_id, word_element, word_attlist, word_required, word_implied}
use Rattle.paper.specs.Dtd.Letters.{first_of_two, first_of_three, first_of_four}
use Rattle.paper.specs.Dtd.Declarations.{Suffix, once, maybe, many, several, Part, word, sequence, choice, Parts, only, ◌and◌, empty, text, model}
use Rattle.paper.specs.Dtd.Declarations.{cdata, id, idref, idrefs, required, implied, Definition, Declaration, element, attlist, element_names}
use Rattle.paper.specs.Dtd.Numbering.{model_fits}
use Rattle.paper.specs.Dtd.Readers.{Read, stop, ok, Reader, outside, pure, refuse, if_at, onward, ◌>>=◌, tested, bounded}
use Rattle.paper.specs.Dtd.Readers as R
use Rattle.paper.specs.Dtd.Reading.{limit, reading, new_element, room_for_element, new_attribute, room_for_attribute, id_allowed}
use Rattle.paper.specs.Dtd.Reading as D
use Rattle.paper.specs.Dtd.Imported.{completed, declared}
use Rattle.dtd_laws.specs.Taken.{is_declared}
use Rattle.dtd_laws.specs.Unique.{any}

-- the reader stops with no number but those of K
abbrev pub Stops : {A : Type 0} → (ℕ → Type 0) → Reader A → Type 0
Stops K m = (s t : List ℕ) (k : ℕ) → m s ≡ stop k t → K k

ran : {A B : Type 0} {a : A} {s t : List ℕ} {k : ℕ} → ◌≡◌ {A = Read A} (ok a s) (stop k t) → B
ran e = let z : ◌≡◌ {A = ℕ} 0 1 = cc in absurd (omega arith)

module _ (K : ℕ → Type 0) where
  module _ {A : Type 0} where
    pub pure_stops : (a : A) → Stops K (pure a)
    pure_stops a s t k e = ran e

    pub test_stops : {m m' : Reader A} (H : List ℕ → Bool) → Stops K m → Stops K m' → Stops K (λ s. cond (H s) (m s) (m' s))
    test_stops {m} {m'} H x y s t k e = by (H s) e
      where
        by : (b : Bool) → cond b (m s) (m' s) ≡ stop k t → K k
        by true e = x s t k e
        by false e = y s t k e

    pub chain_stops : {B : Type 0} {m : Reader B} {f : B → Reader A} → Stops K m → ((b : B) → Stops K (f b)) → Stops K (m >>= f)
    chain_stops {B} {m} {f} x y s t k e = by (m s) refl e
      where
        by : (o : Read B) → m s ≡ o → onward o f ≡ stop k t → K k
        by (stop j u) p e = let d : j ≡ k = cc in rw (← d) (x s u j p)
        by (ok b u) p e = y b u t k e

    pub tested_stops : {m : Reader A} (P : A → Bool) (j : ℕ) → K j → Stops K m → Stops K (tested j P m)
    tested_stops {m} P j l x s t k e = by (m s) refl e
      where
        pick : (a : A) (u : List ℕ) (b : Bool) → cond b (ok a u) (stop j s) ≡ stop k t → K k
        pick a u true e = ran e
        pick a u false e = let d : j ≡ k = cc in rw (← d) l

        by : (o : Read A) → m s ≡ o → onward o (λ a r. cond (P a) (ok a r) (stop j s)) ≡ stop k t → K k
        by (stop i u) p e = let d : i ≡ k = cc in rw (← d) (x s u i p)
        by (ok a u) p e = pick a u (P a) e

    pub bounded_stops : (m : ℕ → Reader A) → ((n : ℕ) → Stops K (m n)) → Stops K (bounded m)
    bounded_stops m x s t k e = x _ s t k e

  -- ---- the smallest readers

  module _ (fault : K 14) where
    pub refuse_stops : {A : Type 0} → Stops K (refuse {A = A})
    refuse_stops s t k e = let d : 14 ≡ k = cc in rw (← d) fault

    pub literal_stops : (l : List ℕ) → Stops K (R.literal l)
    literal_stops [] s t k e = ran e
    literal_stops (b ∷ l) [] t k e = let d : 14 ≡ k = cc in rw (← d) fault
    literal_stops (b ∷ l) (c ∷ s) t k e = by (eqb b c) (literal_stops l s t k) e
      where
        by : (x : Bool) → (R.literal l s ≡ stop k t → K k) → cond x (R.literal l s) (stop outside (c ∷ s)) ≡ stop k t → K k
        by true h e = h e
        by false h e = let d : 14 ≡ k = cc in rw (← d) fault

    pub byte_stops : (P : ℕ → Bool) → Stops K (R.byte P)
    byte_stops P [] t k e = let d : 14 ≡ k = cc in rw (← d) fault
    byte_stops P (b ∷ s) t k e = by (P b) e
      where
        by : (x : Bool) → cond x (ok b s) (stop outside (b ∷ s)) ≡ stop k t → K k
        by true e = ran e
        by false e = let d : 14 ≡ k = cc in rw (← d) fault

    pub front_stops : {A : Type 0} {m m' : Reader A} (P : ℕ → Bool) → Stops K m → Stops K m' → Stops K (if_at P m m')
    front_stops P x y = test_stops (begins P) x y

    pub char_stops : Stops K R.char
    char_stops =
        front_stops first_of_two (chain_stops (byte_stops _) (λ a. byte_stops _))
        (front_stops first_of_three (chain_stops (byte_stops _) (λ a. chain_stops (byte_stops _) (λ b. byte_stops _)))
        (front_stops first_of_four (chain_stops (byte_stops _) (λ a. chain_stops (byte_stops _) (λ b. chain_stops (byte_stops _) (λ c. byte_stops _))))
        (byte_stops _)))

    pub inside_stops : (n : ℕ) → Stops K (R.inside n)
    inside_stops zero = refuse_stops
    inside_stops (suc n) =
        front_stops (eqb hyphen)
        (chain_stops (literal_stops (hyphen ∷ [])) (λ u. front_stops (eqb hyphen) (literal_stops (45 ∷ 62 ∷ [])) (chain_stops char_stops (λ c. inside_stops n))))
        (chain_stops char_stops (λ c. inside_stops n))

    pub S?_stops : Stops K R.S?
    S?_stops s t k e = ran e

    pub S_stops : Stops K R.S
    S_stops = front_stops is_white S?_stops refuse_stops

    pub name_stops : Stops K R.name
    name_stops = front_stops is_first (λ s t k e. ran e) refuse_stops

    pub suffix_stops : Stops K R.suffix
    suffix_stops [] t k e = ran e
    suffix_stops (b ∷ s) t k e = by (eqb b 63) (eqb b 42) (eqb b 43) e
      where
        by : (x y z : Bool) → cond x (ok maybe s) (cond y (ok many s) (cond z (ok several s) (ok once (b ∷ s)))) ≡ stop k t → K k
        by true y z e = ran e
        by false true z e = ran e
        by false false true e = ran e
        by false false false e = ran e

    pub whole_stops : {A : Type 0} (l : List ℕ) (a : A) → Stops K (R.whole l a)
    whole_stops l a = chain_stops (literal_stops l) (λ u. chain_stops (front_stops is_more refuse_stops (pure_stops tt)) (λ v. pure_stops a))

    pub spelled_stops : {A : Type 0} (l : List ℕ) (a : A) → Stops K (R.spelled l a)
    spelled_stops l a = chain_stops (literal_stops l) (λ u. pure_stops a)

    pub kind_stops : Stops K R.kind
    kind_stops =
        front_stops (eqb 67) (whole_stops word_cdata cdata)
        (chain_stops (literal_stops word_id) (λ u.
        front_stops (eqb 82) (chain_stops (literal_stops (82 ∷ 69 ∷ 70 ∷ [])) (λ v. front_stops (eqb 83) (whole_stops (83 ∷ []) idrefs) (whole_stops [] idref))) (whole_stops [] id)))

    pub status_stops : Stops K R.status
    status_stops = chain_stops (literal_stops (35 ∷ [])) (λ u. front_stops (eqb 82) (spelled_stops word_required required) (spelled_stops word_implied implied))

    -- ---- models

    module _ (known : Name → Bool) where
      pub named_stops : Stops K (D.named known)
      named_stops = chain_stops (tested_stops known outside fault name_stops) (λ n. chain_stops suffix_stops (λ q. pure_stops (word n q)))

      pub behind_stops : {m : Reader Parts} (make : Parts → Suffix → Part) → Stops K m → Stops K (D.behind known make m)
      behind_stops make x = chain_stops x (λ ps. chain_stops suffix_stops (λ q. pure_stops (make ps q)))

      pub final_stops : (p : Part) → Stops K (D.final known p)
      final_stops p = chain_stops (literal_stops (closing ∷ [])) (λ u. pure_stops (only p))

      mutual
        pub group_stops : (n : ℕ) → Stops K (D.group known n)
        group_stops zero = refuse_stops
        group_stops (suc n) =
            chain_stops (literal_stops (opening ∷ [])) (λ u.
            chain_stops S?_stops (λ v.
            chain_stops (front_stops (eqb opening) (group_stops n) named_stops) (λ p.
            chain_stops S?_stops (λ w.
            front_stops (eqb comma) (behind_stops (λ ps. sequence (p and ps)) (rest_stops n comma))
            (front_stops (eqb bar) (behind_stops (choice p) (rest_stops n bar)) (behind_stops sequence (final_stops p)))))))

        pub rest_stops : (n : ℕ) (j : ℕ) → Stops K (D.rest known n j)
        rest_stops zero j = refuse_stops
        rest_stops (suc n) j =
            chain_stops (literal_stops (j ∷ [])) (λ u.
            chain_stops S?_stops (λ v.
            chain_stops (front_stops (eqb opening) (group_stops n) named_stops) (λ p.
            chain_stops S?_stops (λ w. front_stops (eqb j) (chain_stops (rest_stops n j) (λ ps. pure_stops (p and ps))) (final_stops p)))))

      -- ---- declarations

      module _ (over : K 2) where
        pub content_stops : Stops K (D.contentspec known)
        content_stops =
            front_stops (eqb opening)
            (test_stops (D.hashed known)
            (chain_stops (literal_stops (opening ∷ [])) (λ a.
            chain_stops S?_stops (λ b. chain_stops (literal_stops word_text) (λ c. chain_stops S?_stops (λ d. chain_stops (literal_stops (closing ∷ [])) (λ e. pure_stops text))))))
            (chain_stops (tested_stops model_fits limit over (bounded_stops (D.group known) group_stops)) (λ p. pure_stops (model p))))
            (spelled_stops word_empty empty)

        pub element_stops : (old : List Declaration) → Stops K (D.elementdecl known old)
        element_stops old =
            chain_stops (literal_stops word_element) (λ a.
            chain_stops S_stops (λ b.
            chain_stops (tested_stops (λ n. room_for_element old) limit over (tested_stops (new_element old) outside fault name_stops)) (λ n.
            chain_stops S_stops (λ d.
            chain_stops content_stops (λ c. chain_stops S?_stops (λ e. chain_stops (literal_stops (greater ∷ [])) (λ f. pure_stops (element n c))))))))

        pub definition_stops : (old : List Declaration) (e : Name) → Stops K (D.att_def known old e)
        definition_stops old e =
            chain_stops S_stops (λ a.
            chain_stops (tested_stops (room_for_attribute old) limit over (tested_stops (new_attribute old e) outside fault name_stops)) (λ n.
            chain_stops S_stops (λ b.
            chain_stops (tested_stops (id_allowed old e) limit over kind_stops) (λ k.
            chain_stops S_stops (λ c. chain_stops status_stops (λ t. pure_stops (record { name = n; kind = k; status = t })))))))

        pub definitions_stops : (old : List Declaration) (e : Name) (n : ℕ) (own : List Definition) → Stops K (D.att_defs known old e n own)
        definitions_stops old e zero own = refuse_stops
        definitions_stops old e (suc n) own =
            test_stops (D.due known)
            (chain_stops (definition_stops (old ++ attlist e own ∷ []) e) (λ d. definitions_stops old e n (own ++ d ∷ [])))
            (chain_stops S?_stops (λ u. chain_stops (literal_stops (greater ∷ [])) (λ v. pure_stops own)))

        pub attlist_stops : (old : List Declaration) → Stops K (D.attlist_decl known old)
        attlist_stops old =
            chain_stops (literal_stops word_attlist) (λ a.
            chain_stops S_stops (λ b.
            chain_stops (tested_stops known outside fault name_stops) (λ e.
            chain_stops (bounded_stops (λ n. D.att_defs known old e n []) (λ n. definitions_stops old e n [])) (λ ds. pure_stops (attlist e ds)))))

        pub turn_stops : (old : List Declaration) → Stops K (D.turn known old)
        turn_stops old =
            front_stops is_white (chain_stops S?_stops (λ u. pure_stops []))
            (chain_stops (literal_stops (60 ∷ 33 ∷ [])) (λ u.
            front_stops (eqb 45)
            (chain_stops (literal_stops (45 ∷ 45 ∷ [])) (λ v. chain_stops (bounded_stops R.inside inside_stops) (λ w. pure_stops [])))
            (front_stops (eqb 65) (chain_stops (attlist_stops old) (λ d. pure_stops (d ∷ []))) (chain_stops (element_stops old) (λ d. pure_stops (d ∷ []))))))

        pub text_stops : (n : ℕ) (old : List Declaration) → Stops K (D.declarations known n old)
        text_stops zero old = test_stops null (pure_stops old) refuse_stops
        text_stops (suc n) old = test_stops null (pure_stops old) (chain_stops (turn_stops old) (λ new. text_stops n (old ++ new)))

        pub reading_stops : Stops K (reading known)
        unfolding reading
        reading_stops = bounded_stops (λ n. D.declarations known n []) (λ n. text_stops n [])

-- ---- the law

-- A text that is not taken is refused with 14 or with 2.
pub refused_with : (s t : List ℕ) (k : ℕ) → declared s ≡ stop k t → (k ≡ 14) ⊎ (k ≡ 2)
unfolding declared
refused_with s t k e = by (reading any s) refl e
  where
    end : (ds : List Declaration) (r : List ℕ) (b : Bool) → cond b (stop 14 r) (reading (is_declared ds) s) ≡ stop k t → (k ≡ 14) ⊎ (k ≡ 2)
    end ds r true e = inl (cc)
    end ds r false e = reading_stops (λ k. (k ≡ 14) ⊎ (k ≡ 2)) (inl refl) (is_declared ds) (inr refl) s t k e

    by : (o : Read (List Declaration)) → reading any s ≡ o → completed s o ≡ stop k t → (k ≡ 14) ⊎ (k ≡ 2)
    by (stop j r) p e = reading_stops (λ k. (k ≡ 14) ⊎ (k ≡ 2)) (inl refl) any (inr refl) s r k (p ∙ cc)
    by (ok ds r) p e = end ds r (null (element_names ds)) e

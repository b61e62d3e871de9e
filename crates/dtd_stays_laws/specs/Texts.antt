-- Declarations and texts are read as before when more text follows. Assumes nothing.
use Rattle.std.specs.Prelude.{◌≡◌, refl, ◌≢◌, ◌⊎◌, Bool, true, false, cond, not, ◌&&◌, ℕ, zero, suc, ◌<◌, eqb, length}
use Rattle.std.proofs.Common.{sym, ap, subst, ◌∙◌, inl, inr, arith}
use mathlib.Core.List.{List, [], ◌∷◌, ◌++◌, cons≢nil}
use Rattle.paper.specs.Basics.{null}
use Rattle.paper.specs.Dtd.Letters.{Name, is_white, begins, past, opening, closing, hash, greater, word_element, word_attlist, word_empty, word_text}
use Rattle.paper.specs.Dtd.Declarations.{empty, text, model, Definition, Declaration, element, attlist}
use Rattle.paper.specs.Dtd.Numbering.{model_fits}
use Rattle.paper.specs.Dtd.Readers.{Read, stop, ok, Reader, outside, ◌>>=◌}
use Rattle.paper.specs.Dtd.Readers as R
use Rattle.paper.specs.Dtd.Reading.{limit, reading, new_element, room_for_element, new_attribute, room_for_attribute, id_allowed}
use Rattle.paper.specs.Dtd.Reading as D
use Rattle.dtd_laws.specs.Attributes.{asked_exact, definition_strict}
use Rattle.dtd_laws.specs.Texts.{turn_exact, piece_strict}
use Rattle.dtd_stays_laws.specs.Stays.{AtEnd, Under, up, Grows, end_grows, Stays, chain, chain_strict, pure_stays, none_stays, by_test, by_front, tested_stays, bounded_stays}
use Rattle.dtd_stays_laws.specs.Leaves.{literal_stays, past_grows, S?_stays, S_stays, name_stays, spelled_stays, kind_stays, status_stays, inside_stays, keeps_lasts, tested_keeps, name_keeps, kind_keeps}
use Rattle.dtd_stays_laws.specs.Models.{group_stays, model_lasts}

module _ (x : List ℕ) (known : Name → Bool) where
  -- a name, tested twice
  name_twice : {n : ℕ} (new room : Name → Bool) → Stays x n (R.tested limit room (R.tested outside new R.name)) (R.tested limit room (R.tested outside new R.name))
  name_twice new room =
      tested_stays x limit room (tested_stays x outside new (name_stays x) (keeps_lasts x new (name_keeps x)))
      (keeps_lasts x room (tested_keeps x outside new (name_keeps x)))

  -- the byte behind white space, with x behind
  front_same : (P : ℕ → Bool) (s : List ℕ) → s ≢ [] → begins P (s ++ x) ≡ begins P s
  front_same P [] e = absurd (e refl)
  front_same P (b ∷ s) e = refl

  behind_white : (P : ℕ → Bool) (s : List ℕ) → past is_white s ≢ [] → begins P (past is_white (s ++ x)) ≡ begins P (past is_white s)
  behind_white P s e = ap (begins P) (past_grows x is_white s e) ∙ front_same P (past is_white s) e

  -- ---- contents

  text_stays : {n : ℕ} → Stays x n (D.text_only known) (D.text_only known)
  text_stays =
      chain x (literal_stays x (opening ∷ [])) (λ a.
      chain x (S?_stays x) (λ b. chain x (literal_stays x word_text) (λ c. chain x (S?_stays x) (λ d. chain x (literal_stays x (closing ∷ [])) (λ e. pure_stays x text)))))

  limited_stays : {n : ℕ} → Stays x n (D.limited known) (D.limited known)
  limited_stays =
      chain x (tested_stays x limit model_fits (bounded_stays x (D.group known) (λ n. group_stays x known (suc n))) (model_lasts x known)) (λ p. pure_stays x (model p))

  -- a bracket with nothing but white space behind it
  limited_ends : (b : ℕ) (s : List ℕ) → eqb opening b ≡ true → past is_white s ≡ [] → AtEnd (D.limited known (b ∷ s))
  limited_ends b s p e = rw (p, e) refl

  content_stays : {n : ℕ} → Stays x n (D.contentspec known) (D.contentspec known)
  content_stays {n} = record { grows = grow; less = left; ends = refl }
    where
      pick : (s : List ℕ) → length s < n → (c : Bool)
          → Grows x (cond c (D.text_only known s) (D.limited known s)) (cond c (D.text_only known (s ++ x)) (D.limited known (s ++ x)))
      pick s h true = (text_stays {n = n}).grows s h
      pick s h false = (limited_stays {n = n}).grows s h

      bracket : (b : ℕ) (s : List ℕ) → eqb opening b ≡ true → length (b ∷ s) < n → (t : List ℕ) → past is_white s ≡ t
          → Grows x (cond (D.hashed known (b ∷ s)) (D.text_only known (b ∷ s)) (D.limited known (b ∷ s)))
          (cond (D.hashed known (b ∷ s ++ x)) (D.text_only known (b ∷ s ++ x)) (D.limited known (b ∷ s ++ x)))
      bracket b s p h [] e = rw e (end_grows x (D.limited known (b ∷ s)) _ (limited_ends b s p e))
      bracket b s p h (c ∷ t) e =
          subst (λ y. Grows x (cond (D.hashed known (b ∷ s)) (D.text_only known (b ∷ s)) (D.limited known (b ∷ s)))
          (cond y (D.text_only known (b ∷ s ++ x)) (D.limited known (b ∷ s ++ x))))
          (sym (behind_white (eqb hash) s (λ i. cons≢nil (sym e ∙ i)))) (pick (b ∷ s) h (D.hashed known (b ∷ s)))

      by : (b : ℕ) (s : List ℕ) → length (b ∷ s) < n → (c : Bool) → eqb opening b ≡ c
          → Grows x (cond c (cond (D.hashed known (b ∷ s)) (D.text_only known (b ∷ s)) (D.limited known (b ∷ s))) (R.spelled word_empty empty (b ∷ s)))
          (cond c (cond (D.hashed known (b ∷ s ++ x)) (D.text_only known (b ∷ s ++ x)) (D.limited known (b ∷ s ++ x))) (R.spelled word_empty empty (b ∷ s ++ x)))
      by b s h true p = bracket b s p h (past is_white s) refl
      by b s h false p = (spelled_stays x {n = n} word_empty empty).grows (b ∷ s) h

      grow : (s : List ℕ) → length s < n → Grows x (D.contentspec known s) (D.contentspec known (s ++ x))
      grow [] h = λ g. absurd (g.some refl)
      grow (b ∷ s) h = by b s h (eqb opening b) refl

      left : (s : List ℕ) → Under (D.contentspec known s) (suc (length s))
      left s = two (begins (eqb opening) s) (D.hashed known s)
        where
          two : (c d : Bool) → Under (cond c (cond d (D.text_only known s) (D.limited known s)) (R.spelled word_empty empty s)) (suc (length s))
          two true true = (text_stays {n = n}).less s
          two true false = (limited_stays {n = n}).less s
          two false d = (spelled_stays x {n = n} word_empty empty).less s

  -- ---- declarations

  element_stays : {n : ℕ} (old : List Declaration) → Stays x n (D.elementdecl known old) (D.elementdecl known old)
  element_stays old =
      chain x (literal_stays x word_element) (λ a.
      chain x (S_stays x) (λ b.
      chain x (name_twice (new_element old) (λ n. room_for_element old)) (λ n.
      chain x (S_stays x) (λ d.
      chain x content_stays (λ c. chain x (S?_stays x) (λ e. chain x (literal_stays x (greater ∷ [])) (λ f. pure_stays x (element n c))))))))

  definition_stays : {n : ℕ} (old : List Declaration) (e : Name) → Stays x n (D.att_def known old e) (D.att_def known old e)
  definition_stays old e =
      chain x (S_stays x) (λ a.
      chain x (name_twice (new_attribute old e) (room_for_attribute old)) (λ n.
      chain x (S_stays x) (λ b.
      chain x (tested_stays x limit (id_allowed old e) (kind_stays x) (keeps_lasts x (id_allowed old e) (kind_keeps x))) (λ k.
      chain x (S_stays x) (λ c. chain x (status_stays x) (λ t. pure_stays x (record { name = n; kind = k; status = t })))))))

  definition_less : (old : List Declaration) (e : Name) (s : List ℕ) → Under (D.att_def known old e s) (length s)
  definition_less old e s = by (D.att_def known old e s) refl
    where
      by : (o : Read Definition) → D.att_def known old e s ≡ o → Under o (length s)
      by (stop k t) p = tt
      by (ok d r) p = definition_strict known d s r ((asked_exact known {n = 0} old e).gives p).0

  ended_stays : {n : ℕ} (own : List Definition) → Stays x n (D.ended known own) (D.ended known own)
  ended_stays own = chain x (S?_stays x) (λ u. chain x (literal_stays x (greater ∷ [])) (λ v. pure_stays x own))

  -- a definition, and those behind it
  abbrev next : List Declaration → Name → ℕ → List Definition → Reader (List Definition)
  next old e n own = D.att_def known (old ++ attlist e own ∷ []) e >>= λ d. D.att_defs known old e n (own ++ d ∷ [])

  -- nothing but white space is left
  white_ends : (old : List Declaration) (e : Name) (n : ℕ) (own : List Definition) (b : ℕ) (s : List ℕ) → past is_white (b ∷ s) ≡ [] → (c : Bool) → is_white b ≡ c
      → AtEnd (cond (D.due known (b ∷ s)) (next old e n own (b ∷ s)) (D.ended known own (b ∷ s)))
  white_ends old e n own b s q true p = let r : past is_white s ≡ [] = rw p at q in rw (p, r) refl
  white_ends old e n own b s q false p = absurd (cons≢nil (rw p at q))

  due_same : (old : List Declaration) (e : Name) (n : ℕ) (own : List Definition) (s : List ℕ)
      → (D.due known (s ++ x) ≡ D.due known s) ⊎ AtEnd (cond (D.due known s) (next old e n own s) (D.ended known own s))
  due_same old e n own [] = inr refl
  due_same old e n own (b ∷ s) = by (past is_white (b ∷ s)) refl
    where
      by : (t : List ℕ) → past is_white (b ∷ s) ≡ t
          → (D.due known (b ∷ s ++ x) ≡ D.due known (b ∷ s)) ⊎ AtEnd (cond (D.due known (b ∷ s)) (next old e n own (b ∷ s)) (D.ended known own (b ∷ s)))
      by [] q = inr (white_ends old e n own b s q (is_white b) refl)
      by (c ∷ t) q = inl (ap (λ y. is_white b && not y) (behind_white (eqb greater) (b ∷ s) (λ i. cons≢nil (sym q ∙ i))))

  definitions_stays : (old : List Declaration) (e : Name) (n : ℕ) (own : List Definition) → Stays x n (D.att_defs known old e n own) (D.att_defs known old e (up x n) own)
  definitions_stays old e zero own = none_stays x
  definitions_stays old e (suc n) own =
      by_test x (D.due known) (due_same old e n own)
      (chain_strict x (definition_stays (old ++ attlist e own ∷ []) e) (definition_less (old ++ attlist e own ∷ []) e) (λ d. definitions_stays old e n (own ++ d ∷ [])))
      (ended_stays own)

  attlist_stays : {n : ℕ} (old : List Declaration) → Stays x n (D.attlist_decl known old) (D.attlist_decl known old)
  attlist_stays old =
      chain x (literal_stays x word_attlist) (λ a.
      chain x (S_stays x) (λ b.
      chain x (tested_stays x outside known (name_stays x) (keeps_lasts x known (name_keeps x))) (λ e.
      chain x (bounded_stays x (λ n. D.att_defs known old e n []) (λ n. definitions_stays old e (suc n) [])) (λ ds. pure_stays x (attlist e ds)))))

  comment_stays : {n : ℕ} → Stays x n (D.comment known) (D.comment known)
  comment_stays =
      chain x (literal_stays x (45 ∷ 45 ∷ [])) (λ v. chain x (bounded_stays x R.inside (λ n. inside_stays x (suc n))) (λ w. pure_stays x []))

  single_stays : {n : ℕ} {m : Reader Declaration} → Stays x n m m → Stays x n (D.single known m) (D.single known m)
  single_stays y = chain x y (λ d. pure_stays x (d ∷ []))

  turn_stays : {n : ℕ} (old : List Declaration) → Stays x n (D.turn known old) (D.turn known old)
  turn_stays old =
      by_front x is_white (chain x (S?_stays x) (λ u. pure_stays x []))
      (chain x (literal_stays x (60 ∷ 33 ∷ [])) (λ u.
      by_front x (eqb 45) comment_stays (by_front x (eqb 65) (single_stays (attlist_stays old)) (single_stays (element_stays old)))))

  turn_less : (old : List Declaration) (s : List ℕ) → Under (D.turn known old s) (length s)
  turn_less old s = by (D.turn known old s) refl
    where
      by : (o : Read (List Declaration)) → D.turn known old s ≡ o → Under o (length s)
      by (stop k t) p = tt
      by (ok d r) p = piece_strict known old d s r ((turn_exact known old {n = 0}).gives p)

  -- ---- the text

  null_same : (m : Reader (List Declaration)) (old : List Declaration) (s : List ℕ) → (null (s ++ x) ≡ null s) ⊎ AtEnd (cond (null s) (ok old s) (m s))
  null_same m old [] = inr refl
  null_same m old (b ∷ s) = inl refl

  none_left : (old : List Declaration) (s : List ℕ) (b : Bool) → Under (cond b (ok old s) (stop outside s)) (suc (length s))
  none_left old s true = omega arith
  none_left old s false = tt

  declarations_stays : (n : ℕ) (old : List Declaration) → Stays x n (D.declarations known n old) (D.declarations known (up x n) old)
  declarations_stays zero old = record { grows = λ s h. absurd (omega arith); less = λ s. none_left old s (null s); ends = refl }
  declarations_stays (suc n) old =
      by_test x null (null_same (D.turn known old >>= λ new. D.declarations known n (old ++ new)) old) (pure_stays x old)
      (chain_strict x (turn_stays old) (turn_less old) (λ new. declarations_stays n (old ++ new)))

  pub reading_stays : {n : ℕ} → Stays x n (reading known) (reading known)
  unfolding reading
  reading_stays = bounded_stays x (λ n. D.declarations known n []) (λ n. declarations_stays (suc n) [])

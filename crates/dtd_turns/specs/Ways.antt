-- One turn along a text: white space, a comment, an ATTLIST or an ELEMENT, by its first bytes. Assumes nothing.
use Rattle.std.specs.Prelude.{◌≡◌, refl, Bool, true, false, None, Some, Result, Ok, Err, List, [], ◌∷◌, ◌++◌, map, ℕ, ◌≤◌, eqb, length, take, drop, get_or}
use Rattle.std.proofs.Common.{sym, ap, ◌∙◌, append-nil, arith}
use Rattle.paper.specs.Dtd.Letters.{Name, is_white, begins, past}
use Rattle.paper.specs.Dtd.Declarations.{Content, Declaration, element, element_names, defined, attribute_names, firsts_after}
use Rattle.paper.specs.Dtd.Readers.{Read, stop, ok, Reader, onward, literal, inside, bounded}
use Rattle.paper.specs.Dtd.Reading.{turn, markup, attlist_decl}
use Rattle.dtd_laws.specs.Attributes.{attlist_exact}
use Rattle.dtd_laws.specs.Kept.{defined_append}
use Rattle.dtd_words.specs.declared.Fault.{Fault}
use Rattle.dtd_words.specs.Places.{At, begins_at}
use Rattle.dtd_words.specs.Words.{CameTo, Came, came_inside, faulty, onwards, came_faulty, came_onwards}
use Rattle.dtd_names.specs.Named.{name_at, names_at}
use Rattle.dtd_elements.specs.declared.Element.{Element}
use Rattle.dtd_elements.specs.Elements.{element_after, element_grouped, Stands}
use Rattle.dtd_elements.specs.Stored.{ContentAt, Stored}
use Rattle.dtd_before.specs.Paths.{declared_to}
use Rattle.dtd_heads.specs.Heads.{heads_element}
use Rattle.dtd_attributes.specs.declared.Listed.{Listed}
use Rattle.dtd_attributes.specs.Listed.{ListedIs, ListedCame}
use Rattle.dtd_turns.specs.declared.Turn.{Turn}
use Rattle.dtd_turns.specs.Standing.{Standing, Turned, TurnIs, TurnCame}

-- behind `<!`, at a hyphen: to behind the comment
abbrev pub commenting : Reader (Unit {0})
commenting s = onward (literal (45 ∷ 45 ∷ []) s) (λ u. bounded inside)

-- a turn that adds no element
abbrev pub nothing : (at attributes many : ℕ) → Turn
nothing p n m = record { at = p; element = None; attributes = n; many = m }

-- what the reader of an element comes to
abbrev pub ElementIs : List ℕ → Element → Declaration → List ℕ → Type 0
ElementIs text v d s = At text v.at s × Stands text v.name v.content v.end d

-- an element has no attributes of its own accord
element_adds_none : (old : List Declaration) (n : Name) (c : Content) → attribute_names (old ++ element n c ∷ []) ≡ attribute_names old
element_adds_none old n c = ap (λ l. firsts_after [] (map (λ d. d.name) l)) (defined_append old (element n c ∷ []) ∙ append-nil (defined old))

module _ (known : Name → Bool) (text : List ℕ) (at : ℕ) (elements attributes : List ℕ) (defines : ℕ)
    (heads : List ℕ) (many : ℕ) (rows : List ℕ) (g : Standing text at elements attributes defines heads many rows) where
  abbrev old : List Declaration
  old = declared_to text at

  -- what a turn came to, with the attributes' names at these places and this table
  abbrev Out : Result Turn Fault → (after heads' rows' : List ℕ) → Type 0
  Out r after heads' rows' = TurnCame text (declared_to text at) after heads' rows' r (turn known (declared_to text at) (drop at text))

  adds_nothing : (p : ℕ) → Turned text old attributes heads rows (nothing p defines many) []
  adds_nothing p = record {
    names = refl;
    stored = tt;
    listed = g.ready.alike ∙ ap attribute_names (sym (append-nil old));
    few = g.few_attributes;
    table = rw (append-nil old) g.table;
  }

  -- b: whether the byte there is white
  module _ (b : Bool) (q : b ≡ is_white (get_or text at 0)) where
    front : begins is_white (drop at text) ≡ b
    front = sym (begins_at is_white text at b g.below q)

    pub white : (e : ℕ) (T : Turn) → T ≡ nothing e defines many → b ≡ true → At text e (past is_white (drop at text)) → Out (Ok T) attributes heads rows
    white e T f p x = rw (f, front ∙ p) (x, adds_nothing e)

    module _ (p : b ≡ false) where
      pub no_mark : (f : Fault) → Came text (Err f) (literal (60 ∷ 33 ∷ []) (drop at text)) → Out (Err f) attributes heads rows
      no_mark f x = rw (front ∙ p) (came_faulty (TurnIs text old attributes heads rows) text (λ u. markup known old) f (literal (60 ∷ 33 ∷ []) (drop at text)) x)

      module _ (m : ℕ) (x : Came text (Ok m) (literal (60 ∷ 33 ∷ []) (drop at text))) where
        pub mark_inside : m ≤ length text
        mark_inside = came_inside text m (literal (60 ∷ 33 ∷ []) (drop at text)) x

        marked : (after heads' rows' : List ℕ) (r : Result Turn Fault) → TurnCame text old after heads' rows' r (markup known old (drop m text)) → Out r after heads' rows'
        marked after heads' rows' r y =
            rw (front ∙ p) (came_onwards (TurnIs text old after heads' rows') text (λ u. markup known old) m (literal (60 ∷ 33 ∷ []) (drop at text)) r x (λ u. y))

        -- c: whether a hyphen stands behind the mark
        module _ (c : Bool) (r : c ≡ begins (eqb 45) (drop m text)) where
          abbrev none_new : Unit {0} → Reader (List Declaration)
          none_new v s = ok [] s

          grouped : (o : Read (Unit {0})) → onward o (λ u t. onward (bounded inside t) none_new) ≡ onward (onward o (λ u. bounded inside)) none_new
          grouped (stop k t) = refl
          grouped (ok u t) = refl

          pub noted : (e : ℕ) (T : Turn) → T ≡ nothing e defines many → c ≡ true → Came text (Ok e) (commenting (drop m text)) → Out (Ok T) attributes heads rows
          noted e T z s y =
              rw z (marked attributes heads rows (Ok (nothing e defines many))
              (rw (← r, s, grouped (literal (45 ∷ 45 ∷ []) (drop m text)))
              (onwards (λ at a s. At text at s) (TurnIs text old attributes heads rows) text none_new e (commenting (drop m text)) (Ok (nothing e defines many)) y (λ u t a. (a, adds_nothing e)))))

          pub no_note : (f : Fault) → c ≡ true → Came text (Err f) (commenting (drop m text)) → Out (Err f) attributes heads rows
          no_note f s y =
              marked attributes heads rows (Err f)
              (rw (← r, s, grouped (literal (45 ∷ 45 ∷ []) (drop m text)))
              (came_faulty (TurnIs text old attributes heads rows) text none_new f (commenting (drop m text)) y))

          module _ (s : c ≡ false) (d : Bool) (t : d ≡ begins (eqb 65) (drop m text)) where
            -- an element
            pub declares : (e : Element) → d ≡ false
                → CameTo (ElementIs text) text (Ok e) (element_after known (names_at text elements) (drop m text))
                → Out (Ok (record { at = e.at; element = Some e; attributes = defines; many = many })) attributes heads rows
            declares e z y =
                marked attributes heads rows (Ok T)
                (rw (← r, s, ← t, z) (rw (element_grouped known old (drop m text), ← g.names)
                (onwards (ElementIs text) (TurnIs text old attributes heads rows) text (λ d. ok (d ∷ [])) e (element_after known (names_at text elements) (drop m text)) (Ok T) y
                (λ d u w. (w.0, rw w.1.is (adds_one w.1.content w.1.stands))))))
              where
                T : Turn
                T = record { at = e.at; element = Some e; attributes = defines; many = many }

                adds_one : (c : Content) → ContentAt text e.content e.end c → Turned text old attributes heads rows T (element (name_at text e.name) c ∷ [])
                adds_one c x = record {
                  names = refl;
                  stored = (x, tt);
                  listed = g.ready.alike ∙ sym (element_adds_none old (name_at text e.name) c);
                  few = g.few_attributes;
                  table = heads_element text heads rows old many (name_at text e.name) c g.table;
                }

            pub no_element : (f : Fault) → d ≡ false → CameTo (ElementIs text) text (Err f) (element_after known (names_at text elements) (drop m text)) → Out (Err f) attributes heads rows
            no_element f z y =
                marked attributes heads rows (Err f)
                (rw (← r, s, ← t, z) (rw (element_grouped known old (drop m text), ← g.names)
                (faulty (ElementIs text) (TurnIs text old attributes heads rows) text (λ d. ok (d ∷ [])) f (element_after known (names_at text elements) (drop m text)) y)))

            -- an ATTLIST
            pub lists : (after heads' rows' : List ℕ) (l : Listed) (T : Turn) → T ≡ nothing l.at l.count l.many → d ≡ true → ListedCame text at after heads' rows' (Ok l) (attlist_decl known old (drop m text))
                → Out (Ok T) after heads' rows'
            lists after heads' rows' l T z e y = rw z (marked after heads' rows' (Ok (nothing l.at l.count l.many)) (rw (← r, s, ← t, e) (by (attlist_decl known old (drop m text)) refl y)))
              where
                is_list : (d : Declaration) (u : List ℕ) → attlist_decl known old (drop m text) ≡ ok d u → (element_names (d ∷ []) ≡ []) × Stored text (d ∷ []) [] []
                is_list d u f = let (n, ds, i, j, k) = (attlist_exact known {n = 0} old).gives {a = d} {s = drop m text} {r = u} f in rw (← i) (refl, tt)

                by : (o : Read Declaration) → attlist_decl known old (drop m text) ≡ o → ListedCame text at after heads' rows' (Ok l) o
                    → TurnCame text old after heads' rows' (Ok (nothing l.at l.count l.many)) (onward o (λ d. ok (d ∷ [])))
                by (stop k u) f y = absurd y
                by (ok d u) f (j, k, z, h) =
                    let (v, w) = is_list d u f in
                    (j, record { names = v; stored = w; listed = z; few = k; table = h })

            pub no_list : (after heads' rows' : List ℕ) (f : Fault) → d ≡ true → ListedCame text at after heads' rows' (Err f) (attlist_decl known old (drop m text)) → Out (Err f) after heads' rows'
            no_list after heads' rows' f e y =
                marked after heads' rows' (Err f)
                (rw (← r, s, ← t, e) (faulty (ListedIs text at after heads' rows') (TurnIs text old after heads' rows') text (λ d. ok (d ∷ [])) f (attlist_decl known old (drop m text)) y))

-- ---- a comment

module _ (text : List ℕ) (at : ℕ) where
  pub no_hyphens : (f : Fault) → Came text (Err f) (literal (45 ∷ 45 ∷ []) (drop at text)) → Came text (Err f) (commenting (drop at text))
  no_hyphens f x = came_faulty (λ at a s. At text at s) text (λ u. bounded inside) f (literal (45 ∷ 45 ∷ []) (drop at text)) x

  pub commented : (w : ℕ) → Came text (Ok w) (literal (45 ∷ 45 ∷ []) (drop at text)) → (r : Result ℕ Fault) → Came text r (bounded inside (drop w text))
      → Came text r (commenting (drop at text))
  commented w x r c = came_onwards (λ at a s. At text at s) text (λ u. bounded inside) w (literal (45 ∷ 45 ∷ []) (drop at text)) r x (λ u. c)

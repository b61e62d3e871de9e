-- The loop over the declarations of a text: what holds at a place, after a turn, and at the end. Assumes nothing.
use Rattle.std.specs.Prelude.{◌≡◌, refl, Bool, true, false, ◌&&◌, None, Some, Result, Ok, Err, List, [], ◌∷◌, ◌++◌, ℕ, ◌+◌, ◌-◌, ◌≤◌, ◌<◌, length, take, drop, set}
use Rattle.std.proofs.Common.{sym, ap, ◌∙◌, subst, inl, inr, append-nil, arith, add-one, ltb-true, length-set, length-drop, drop_of_length-le, length-take-le, take-suc-set}
use Rattle.std.proofs.lemmas.List.{length-map}
use Rattle.std.proofs.Math.Bool.{and-eq-true_iff}
use Rattle.paper.specs.Basics.{most_elements, most_attributes, null}
use Rattle.paper.specs.Dtd.Letters.{Name}
use Rattle.paper.specs.Dtd.Declarations.{Declaration, element, attlist, element_names, attribute_names}
use Rattle.paper.specs.Dtd.Limits.{content_kept, model_kept, declaration_kept}
use Rattle.paper.specs.Dtd.Readers.{Read, stop, ok, onward}
use Rattle.paper.specs.Dtd.Reading.{turn, reading, new_element, room_for_element}
use Rattle.dtd_laws.specs.Kept.{elements_append}
use Rattle.dtd_laws.specs.Texts.{Piece, turn_exact}
use Rattle.dtd_words.specs.declared.Fault.{Fault}
use Rattle.dtd_words.specs.Places.{At}
use Rattle.dtd_words.specs.Words.{CameTo, faulty}
use Rattle.dtd_names.specs.Named.{name_at, names_at}
use Rattle.dtd_elements.specs.declared.Element.{Element}
use Rattle.dtd_elements.specs.Stored.{Stored, stored_append}
use Rattle.dtd_before.specs.Paths.{Path, here, one_turn_more, turn_less, declared_to, declared_to_lem, reached}
use Rattle.dtd_heads.specs.Heads.{most_numbers, Heads, heads_begun}
use Rattle.dtd_turns.specs.declared.Turn.{Turn}
use Rattle.dtd_turns.specs.Standing.{Standing, named_by, contents_by, ends_by, Turned, TurnIs, TurnCame}
use Rattle.dtd_texts.specs.declared.Reading.{Reading}
use Rattle.dtd_texts.specs.Whole.{whole, whole_turn, reading_whole}

-- the lists that are filled
pub record Lists (elements contents ends attributes heads rows : List ℕ) : Type 0 where
  pub elements_long : length elements ≡ most_elements
  pub contents_long : length contents ≡ most_elements
  pub ends_long : length ends ≡ most_elements
  pub attributes_long : length attributes ≡ most_attributes
  pub heads_long : length heads ≡ most_elements
  pub rows_long : length rows ≡ most_numbers

-- Declarations ds, up to a place: where the elements' names and contents and the attributes' names stand, and the table of rows.
pub record Holding (known : Name → Bool) (text : List ℕ) (ds : List Declaration) (at : ℕ) (elements contents ends attributes heads rows : List ℕ)
    (count defined many : ℕ) : Type 0 where
  pub path : Path known [] text ds (drop at text)
  pub few : count ≤ most_elements
  pub names : names_at text (take count elements) ≡ element_names ds
  pub stored : Stored text ds (take count contents) (take count ends)
  pub few_attributes : defined ≤ most_attributes
  pub listed : names_at text (take defined attributes) ≡ attribute_names ds
  pub table : Heads text ds heads many rows

-- what the reading of a text came to
abbrev pub TextIs : (known : Name → Bool) (text elements contents ends attributes heads rows : List ℕ) → Reading → List Declaration → List ℕ → Type 0
TextIs known text es cs qs ns hs ws v ds s = At text v.at s × Holding known text ds v.at es cs qs ns hs ws v.elements v.attributes v.many

abbrev pub Told : (known : Name → Bool) → List ℕ → Result Reading Fault → (elements contents ends attributes heads rows : List ℕ) → Read (List Declaration) → Type 0
Told known text r es cs qs ns hs ws o = CameTo (TextIs known text es cs qs ns hs ws) text r o

module _ (known : Name → Bool) (text : List ℕ) where
  -- at a place of the text
  pub record Going (elements contents ends attributes heads rows : List ℕ) (at count defined many : ℕ) : Type 0 where
    pub inside : at ≤ length text
    pub long : Lists elements contents ends attributes heads rows
    pub same : reading known text ≡ whole known (declared_to text at) (drop at text)
    pub holds : Holding known text (declared_to text at) at elements contents ends attributes heads rows count defined many

  pub begun : (es cs qs ns hs ws : List ℕ) → Lists es cs qs ns hs ws → Going es cs qs ns hs ws 0 0 0 0
  begun es cs qs ns hs ws l =
      let h = l.heads_long in
      let w = l.rows_long in
      let d : declared_to text 0 ≡ [] = declared_to_lem known text 0 [] (omega arith) here in
      record {
        inside = omega arith;
        long = l;
        same = reading_whole known text ∙ rw d;
        holds = rw d (record { path = here; few = omega arith; names = refl; stored = tt; few_attributes = omega arith; listed = refl; table = heads_begun text hs ws (omega arith) (omega arith) });
      }

  module _ (es cs qs ns hs ws : List ℕ) (at count defined many : ℕ) (g : Going es cs qs ns hs ws at count defined many) where
    pub count_fits : count ≤ length es
    count_fits = omega (arith, g.long.elements_long, g.holds.few)

    pub standing : at < length text → Standing text at (take count es) ns defined hs many ws
    standing h =
        let l = g.long in
        let o = g.holds in
        let e = l.elements_long in
        let a = l.attributes_long in
        let f = o.few in
        let i = o.few_attributes in
        record {
          below = h;
          ready = record {
            reached = reached known text at (declared_to text at) g.inside o.path;
            few = omega (arith, length-take-le defined ns (omega arith));
            alike = o.listed;
          };
          few_attributes = i;
          few = omega (arith, length-take-le count es (omega arith));
          names = o.names;
          room = omega arith;
          table = o.table;
        }

    pub ended : length text ≤ at → Told known text (Ok (record { at = at; elements = count; attributes = defined; many = many })) es cs qs ns hs ws (reading known text)
    ended h =
        let e : drop at text ≡ [] = drop_of_length-le text h in
        rw g.same (rw e (record { inside = g.inside; rest = e }, g.holds))

    module _ (h : at < length text) (ns' hs' ws' : List ℕ) where
      some_left : null (drop at text) ≡ false
      some_left = by (drop at text) (rw (length-drop at text) (omega arith))
        where
          by : (s : List ℕ) → 0 < length s → null s ≡ false
          by [] h = absurd (omega arith)
          by (b ∷ s) h = refl

      turned : reading known text ≡ onward (turn known (declared_to text at) (drop at text)) (λ new. whole known (declared_to text at ++ new))
      turned = g.same ∙ whole_turn known (declared_to text at) (drop at text) some_left

      pub refused : (f : Fault) → TurnCame text (declared_to text at) ns' hs' ws' (Err f) (turn known (declared_to text at) (drop at text))
          → Told known text (Err f) es cs qs ns' hs' ws' (reading known text)
      refused f x =
          rw turned (faulty (TurnIs text (declared_to text at) ns' hs' ws') (TextIs known text es cs qs ns' hs' ws') text (λ new. whole known (declared_to text at ++ new)) f (turn known (declared_to text at) (drop at text)) x)

      -- t: what a turn came to
      module _ (t : Turn) (x : TurnCame text (declared_to text at) ns' hs' ws' (Ok t) (turn known (declared_to text at) (drop at text))) where
        pub record Took : Type 0 where
          pub value : List Declaration
          pub read : turn known (declared_to text at) (drop at text) ≡ ok value (drop t.at text)
          pub inside : t.at ≤ length text
          pub holds : Turned text (declared_to text at) ns' hs' ws' t value

        read : Took
        read = by (turn known (declared_to text at) (drop at text)) refl x
          where
            by : (o : Read (List Declaration)) → turn known (declared_to text at) (drop at text) ≡ o → TurnCame text (declared_to text at) ns' hs' ws' (Ok t) o → Took
            by (ok new s) e (a, w) = record { value = new; read = e ∙ ap (λ z. ok new z) (sym a.rest); inside = a.inside; holds = w }
            by (stop k s) e w = absurd w

        abbrev new : List Declaration
        new = read.value

        path : Path known [] text (declared_to text at ++ read.value) (drop t.at text)
        path = one_turn_more known read.value (drop t.at text) g.holds.path read.read

        declared : declared_to text t.at ≡ declared_to text at ++ read.value
        declared = declared_to_lem known text t.at (declared_to text at ++ read.value) read.inside path

        pub nearer : length text - t.at < length text - at
        nearer =
            let l = turn_less known (declared_to text at) read.value (drop at text) (drop t.at text) read.read in
            rw (length-drop at text, length-drop t.at text) at l

        same : reading known text ≡ whole known (declared_to text t.at) (drop t.at text)
        same = turned ∙ rw (read.read, ← declared)

        -- the lists after the turn, where it declared no element
        module _ (k : length ns' ≡ length ns) (k2 : length hs' ≡ length hs) (k3 : length ws' ≡ length ws) where
          pub none_more : t.element ≡ None → Going es cs qs ns' hs' ws' t.at count t.attributes t.many
          none_more v =
              let y = read.holds in
              let l = g.long in
              let o = g.holds in
              record {
                inside = read.inside;
                long = record {
                  elements_long = l.elements_long;
                  contents_long = l.contents_long;
                  ends_long = l.ends_long;
                  attributes_long = k ∙ l.attributes_long;
                  heads_long = k2 ∙ l.heads_long;
                  rows_long = k3 ∙ l.rows_long;
                };
                same = same;
                holds = rw declared (record {
                  path = path;
                  few = o.few;
                  names = o.names ∙ sym (elements_append (declared_to text at) read.value ∙ ap (λ z. element_names (declared_to text at) ++ z) (no_name v) ∙ append-nil (element_names (declared_to text at)));
                  stored = nothing_stored (take count cs) (take count qs) o.stored (subst (λ z. Stored text read.value (contents_by z) (ends_by z)) v y.stored);
                  few_attributes = y.few;
                  listed = y.listed;
                  table = y.table;
                });
              }
            where
              no_name : t.element ≡ None → element_names read.value ≡ []
              no_name v = read.holds.names ∙ ap (λ z. names_at text (named_by z)) v

              nothing_stored : (ps rs : List ℕ) → Stored text (declared_to text at) ps rs → Stored text read.value [] [] → Stored text (declared_to text at ++ read.value) ps rs
              nothing_stored ps rs a b =
                  subst (λ z. Stored text (declared_to text at ++ read.value) z rs) (append-nil ps)
                  (subst (λ z. Stored text (declared_to text at ++ read.value) (ps ++ []) z) (append-nil rs) (stored_append text (declared_to text at) read.value ps rs [] [] a b))

          -- the lists after the turn, where it declared one
          module _ (one : Element) (z : t.element ≡ Some one) where
            one_name : element_names read.value ≡ names_at text (one.name ∷ [])
            one_name = read.holds.names ∙ ap (λ z. names_at text (named_by z)) z

            -- an element is declared only if there is room for it
            pub room : count < most_elements
            room = by ((turn_exact known (declared_to text at) {n = 0}).gives read.read)
              where
                has_room : (d : Declaration) → d ∷ [] ≡ read.value → declaration_kept known (declared_to text at) d ≡ true → length (element_names (declared_to text at)) < most_elements
                has_room (element m c) e k =
                    let (a, b) = (and-eq-true_iff (new_element (declared_to text at) m && room_for_element (declared_to text at)) (content_kept (model_kept known) c)).0 k in
                    ltb-true (length (element_names (declared_to text at))) most_elements ((and-eq-true_iff (new_element (declared_to text at) m) (room_for_element (declared_to text at))).0 a).1
                has_room (attlist m l) e k = let f = ap element_names e ∙ one_name in let i : ◌≡◌ {A = ℕ} 0 1 = ap length f in absurd (omega arith)

                none : {A : Type 0} → [] ≡ read.value → A
                none e = let f = ap element_names e ∙ one_name in let i : ◌≡◌ {A = ℕ} 0 1 = ap length f in absurd (omega arith)

                by : Piece known (declared_to text at) read.value (drop at text) (drop t.at text) → count < most_elements
                by (inl (e, p)) = none e
                by (inr (inl (e, p))) = none e
                by (inr (inr (d, e, p, k))) =
                    let l = has_room d e k in
                    let o = g.holds in
                    let i = length-map (take count es) (name_at text) ∙ length-take-le count es (omega (arith, g.long.elements_long, o.few)) in
                    let j = ap length o.names in
                    omega arith

            pub in_elements : count < length es
            in_elements = omega (arith, room, g.long.elements_long)

            pub in_contents : count < length cs
            in_contents = omega (arith, room, g.long.contents_long)

            pub in_ends : count < length qs
            in_ends = omega (arith, room, g.long.ends_long)

            pub one_more : Going (set es count one.name) (set cs count one.content) (set qs count one.end) ns' hs' ws' t.at (count + 1) t.attributes t.many
            one_more =
                let y = read.holds in
                let l = g.long in
                let o = g.holds in
                let r = room in
                record {
                  inside = read.inside;
                  long = record {
                    elements_long = length-set es count one.name ∙ l.elements_long;
                    contents_long = length-set cs count one.content ∙ l.contents_long;
                    ends_long = length-set qs count one.end ∙ l.ends_long;
                    attributes_long = k ∙ l.attributes_long;
                    heads_long = k2 ∙ l.heads_long;
                    rows_long = k3 ∙ l.rows_long;
                  };
                  same = same;
                  holds = rw declared (record {
                    path = path;
                    few = omega arith;
                    names = ap (names_at text) (snoc es l.elements_long one.name) ∙ names_snoc (take count es) one.name ∙ ap (λ v. v ++ names_at text (one.name ∷ [])) o.names ∙ sym (elements_append (declared_to text at) read.value ∙ ap (λ v. element_names (declared_to text at) ++ v) one_name);
                    stored =
                        subst (λ v. Stored text (declared_to text at ++ read.value) v (take (count + 1) (set qs count one.end))) (sym (snoc cs l.contents_long one.content))
                        (subst (λ v. Stored text (declared_to text at ++ read.value) (take count cs ++ one.content ∷ []) v) (sym (snoc qs l.ends_long one.end))
                        (stored_append text (declared_to text at) read.value (take count cs) (take count qs) (one.content ∷ []) (one.end ∷ []) o.stored
                        (subst (λ z. Stored text read.value (contents_by z) (ends_by z)) z y.stored)));
                    few_attributes = y.few;
                    listed = y.listed;
                    table = y.table;
                  });
                }
              where
                snoc : (l : List ℕ) → length l ≡ most_elements → (b : ℕ) → take (count + 1) (set l count b) ≡ take count l ++ b ∷ []
                snoc l e b = rw (add-one count) (take-suc-set l count b (omega (arith, room, e)))

                names_snoc : (l : List ℕ) (b : ℕ) → names_at text (l ++ b ∷ []) ≡ names_at text l ++ names_at text (b ∷ [])
                names_snoc [] b = refl
                names_snoc (a ∷ l) b = rw (names_snoc l b)

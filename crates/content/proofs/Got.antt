-- What each way out of `read` gives. Assumes nothing.
use mathlib.Core.Path.{◌≡◌, refl, sym, ap, ap₂, ◌∙◌, subst}
use Rattle.std.specs.Prelude.{Option, Some, None}
use mathlib.Core.Bool.{Bool, true, false, ◌&&◌, ◌||◌}
use mathlib.Core.List.{List, ◌∷◌, ◌++◌, append_assoc}
use Prim.Native.Nat.{ℕ, ◌+◌, ◌-◌, ◌≤◌, ◌<◌}
use native.Mathlib.Omega.{arith}
use native.Mathlib.Decide.{ℕ_discrete}
use borrow.Author.Tests.{eq-eqb, ne_eqb}
use lib.Dec.{eqb}
use lib.ListN.{length, drop, get_or, length-append, length-drop}
use lib.Bits.{bit_or}
use Rattle.paper.specs.Basics.{most_names}
use Rattle.paper.specs.Expressions.{Expr, name, seq, alt, opt, star, plus, count}
use Rattle.paper.specs.Sets.{when, first_word, last_word}
use Rattle.paper.specs.Schema.{symbols_of}
use Rattle.basic_laws.specs.Lists.{drop_next}
use Rattle.set_walks.specs.Joined.{joined}
use Rattle.model_parts.specs.declared.Part.{Part}
use Rattle.content_laws.specs.Names.{count_some}
use Rattle.content_laws.specs.Symbols.{symbols_some}
use Rattle.content.specs.Front.{same_rest, same_expr, part_of, parts_of}
use Rattle.content.specs.Linked.{linked, linked_name, linked_opt, linked_alt, linked_seq, linked_round}
use Rattle.model_parts.specs.Parts.{single, sequence, choice, also}
use Rattle.content.specs.Parts.{Found, Nothing, Got}

lost : {s : List ℕ} {at p : ℕ} {f g : List ℕ} → Nothing (drop at s) p → Got s at p f g None
lost h = record { found = λ a e. cc; lost = λ e. h }

found : {s : List ℕ} {at p : ℕ} {f g : List ℕ} {q r : Part} → r ≡ q → Found s at p f g q → Got s at p f g (Some r)
found {s} {at} {p} {f} {g} {q} {r} w h = record { found = λ a e. let d : q ≡ a = cc in subst (Found s at p f g) d h; lost = λ e. cc }

-- an expression takes symbols
falls : {s : List ℕ} {at p : ℕ} {f g : List ℕ} {r : Part} → Found s at p f g r → length s - r.next < length s - at
falls {s} {at} {r = r} m =
    let l = ap length m.here in
    omega (arith, l, length-append (symbols_of m.expr) (drop r.next s), length-drop at s, length-drop r.next s, symbols_some m.expr)

-- ---- nothing

pub got_end : {s : List ℕ} {at p : ℕ} {f g : List ℕ} → length s ≤ at → Got s at p f g None
got_end {s} {at} h = lost λ e t c l.
    omega (arith, ap length c, length-append (symbols_of e) t, length-drop at s, symbols_some e)

pub got_full : {s : List ℕ} {at p : ℕ} {f g : List ℕ} → most_names ≤ p → Got s at p f g None
got_full h = lost (λ e t c l. omega (arith, count_some e))

module _ {s : List ℕ} {at p : ℕ} {f g : List ℕ} {o : Option Part} (h : at < length s) (x : Got s (at + 1) p f g o) where
  pub got_no_part : {k : List ℕ} → get_or s at 0 < 5 → o ≡ None → Got s at p f k None
  got_no_part op t = lost λ e u c l.
      let (d, v, i, n) = part_of e (get_or s at 0) (drop (at + 1) s) u (sym (drop_next s at h) ∙ c) op in
      x.lost t d v i (omega arith)

  pub got_no_second : {k m : List ℕ} {a : Part} {r : Option Part} → (get_or s at 0 ≡ 2 → ⊥) → get_or s at 0 ≤ 2 → o ≡ Some a
      → Got s a.next a.places g k r → r ≡ None → Got s at p f m None
  got_no_second {a = a} two op t y u = lost λ e v c l.
      let m = x.found a t in
      let (d, d', i, n) = parts_of e (get_or s at 0) (drop (at + 1) s) v (sym (drop_next s at h) ∙ c) (omega arith) in
      let same : d ≡ m.expr = same_expr d m.expr _ _ (sym i ∙ m.here) in
      let rest : symbols_of d' ++ v ≡ drop a.next s = same_rest d m.expr _ _ (sym i ∙ m.here) in
      y.lost u d' v (sym rest) (omega (arith, ap count same, m.places))

-- ---- a name

pub got_name : {s : List ℕ} {at p : ℕ} {f : List ℕ} {r : Part} → at < length s → 5 ≤ get_or s at 0 → p < most_names → r ≡ single at p → Got s at p f f (Some r)
got_name {s} {at} {p} {f} h op l w =
    let a : ℕ = get_or s at 0 - 5 in
    let i : get_or s at 0 ≡ 5 + a = omega arith in
    found w (record {
      expr = name a;
      here = drop_next s at h ∙ ap (λ x. x ∷ drop (at + 1) s) i;
      within = omega arith;
      places = refl;
      fits = omega arith;
      nullable = refl;
      first = refl;
      last = refl;
      follow = linked_name p a f;
    })

-- ---- one part

module _ {s : List ℕ} {at p : ℕ} {f g : List ℕ} {o : Option Part} {a : Part} (h : at < length s) (x : Got s (at + 1) p f g o) (t : o ≡ Some a) where
  pub part_falls : {n : ℕ} → length s - at ≡ n → length s - a.next < n
  part_falls e = omega (arith, falls (x.found a t))

  pub got_optional : {r : Part} → get_or s at 0 ≡ 2 → r ≡ also true a → Got s at p f g (Some r)
  got_optional op w =
      let m = x.found a t in
      found w (record {
        expr = opt m.expr;
        here = drop_next s at h ∙ ap₂ ◌∷◌ op m.here;
        within = m.within;
        places = m.places;
        fits = m.fits;
        nullable = refl;
        first = m.first;
        last = m.last;
        follow = m.follow ∙ linked_opt p m.expr f;
      })

  pub got_repeated : {k : List ℕ} {r : Part} → 2 < get_or s at 0 → get_or s at 0 < 5 → k ≡ joined a.last a.first g → r ≡ also (eqb (get_or s at 0) 3) a → Got s at p f k (Some r)
  got_repeated {k} {r} low high j w = elim (ℕ_discrete (get_or s at 0) 3) [
    | yes op ↦ zero_or_more op (w ∙ ap (λ b. also b a) (eq-eqb (get_or s at 0) 3 op))
    | no op ↦ one_or_more (omega arith) (w ∙ ap (λ b. also b a) (ne_eqb (get_or s at 0) 3 op))
  ]
    where
      m : Found s (at + 1) p f g a
      m = x.found a t

      links : k ≡ joined (last_word p m.expr) (first_word p m.expr) (linked p m.expr f)
      links = j ∙ cc (m.last, m.first, m.follow)

      zero_or_more : get_or s at 0 ≡ 3 → r ≡ also true a → Got s at p f k (Some r)
      zero_or_more op w = found w (record {
        expr = star m.expr;
        here = drop_next s at h ∙ ap₂ ◌∷◌ op m.here;
        within = m.within;
        places = m.places;
        fits = m.fits;
        nullable = refl;
        first = m.first;
        last = m.last;
        follow = links ∙ linked_round p m.expr (star m.expr) f (λ k. refl);
      })

      one_or_more : get_or s at 0 ≡ 4 → r ≡ also false a → Got s at p f k (Some r)
      one_or_more op w = found w (record {
        expr = plus m.expr;
        here = drop_next s at h ∙ ap₂ ◌∷◌ op m.here;
        within = m.within;
        places = m.places;
        fits = m.fits;
        nullable = m.nullable;
        first = m.first;
        last = m.last;
        follow = links ∙ linked_round p m.expr (plus m.expr) f (λ k. refl);
      })

-- ---- two parts

module _ {s : List ℕ} {at p : ℕ} {f g k : List ℕ} {o o' : Option Part} {a b : Part} (h : at < length s) (x : Got s (at + 1) p f g o) (t : o ≡ Some a)
    (y : Got s a.next a.places g k o') (u : o' ≡ Some b)
  where
    first_part : Found s (at + 1) p f g a
    first_part = x.found a t

    abbrev d : Expr
    d = first_part.expr

    second_part : Found s a.next (p + count d) g k b
    second_part = subst (λ q. Found s a.next q g k b) first_part.places (y.found b u)

    abbrev d' : Expr
    d' = second_part.expr

    both_here : drop (at + 1) s ≡ (symbols_of d ++ symbols_of d') ++ drop b.next s
    both_here = first_part.here ∙ ap (λ l. symbols_of d ++ l) second_part.here ∙ sym (append_assoc (symbols_of d) (symbols_of d') (drop b.next s))

    both_follow : k ≡ linked (p + count d) d' (linked p d f)
    both_follow = second_part.follow ∙ ap (linked (p + count d) d') first_part.follow

    pub got_choice : {r : Part} → get_or s at 0 ≡ 1 → r ≡ choice a b → Got s at p f k (Some r)
    got_choice op w = found w (record {
      expr = alt d d';
      here = drop_next s at h ∙ ap₂ ◌∷◌ op both_here;
      within = second_part.within;
      places = omega (arith, second_part.places);
      fits = second_part.fits;
      nullable = ap₂ ◌||◌ first_part.nullable second_part.nullable;
      first = ap₂ bit_or first_part.first second_part.first;
      last = ap₂ bit_or first_part.last second_part.last;
      follow = both_follow ∙ linked_alt p d d' f;
    })

    pub got_sequence : {l : List ℕ} {r : Part} → (get_or s at 0 ≡ 1 → ⊥) → (get_or s at 0 ≡ 2 → ⊥) → get_or s at 0 ≤ 2
        → l ≡ joined a.last b.first k → r ≡ sequence a b → Got s at p f l (Some r)
    got_sequence one two op j w = found w (record {
      expr = seq d d';
      here = drop_next s at h ∙ ap₂ ◌∷◌ (omega arith) both_here;
      within = second_part.within;
      places = omega (arith, second_part.places);
      fits = second_part.fits;
      nullable = ap₂ ◌&&◌ first_part.nullable second_part.nullable;
      first = joint first_part.first first_part.nullable second_part.first;
      last = joint second_part.last second_part.nullable first_part.last;
      follow = j ∙ links first_part.last second_part.first both_follow ∙ linked_seq p d d' f;
    })
      where
        joint : {v v' w w' : ℕ} {c c' : Bool} → v ≡ v' → c ≡ c' → w ≡ w' → bit_or v (when c w) ≡ bit_or v' (when c' w')
        joint p q r = λ i. bit_or (p i) (when (q i) (r i))

        links : {v v' w w' : ℕ} {l l' : List ℕ} → v ≡ v' → w ≡ w' → l ≡ l' → joined v w l ≡ joined v' w' l'
        links p q r = λ i. joined (p i) (q i) (r i)

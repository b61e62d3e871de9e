-- A content model in a block. Assumes nothing.
use Rattle.std.specs.Prelude.{◌≡◌, refl, Result, Ok, Err, Bool, true, false, Option, Some, None, cond, not, List, ◌++◌, map, ℕ, ◌+◌, ◌≤◌, leb, length, take, drop, set, replicate}
use Rattle.std.proofs.Common.{sym, ap, ◌∙◌, append-nil, arith, leb-true, le-leb, length-append, length-take, length-drop, take_at, drop_at, take_all}
use Rattle.std.proofs.Math.Option.{Option as Maybe, none, some}
use Rattle.std.proofs.lemmas.Bool.{not-true, not-false}
use borrow.Rule.Slice.PartMut.{put_mid}
use mir.Val.{bool_byte}
use Rattle.std.proofs.lemmas.List.{length-replicate}
use Rattle.std.proofs.lemmas.List.Edits.{sets}
use Rattle.std.proofs.Math.Seq.{length-sets}
use Rattle.paper.specs.Basics.{most_elements, most_names, between, all, from, pad}
use Rattle.paper.specs.Expressions.{Expr, names, count}
use Rattle.paper.specs.Sets.{nullable, ambiguous, first_word, last_word, follow_word}
use Rattle.paper.specs.Schema.{expr_of, model, stop, ok, pure, refuse, modelled}
use Rattle.paper.specs.Table.{block_length, count_at, no_child_at, first_at, last_at, names_at, follow_at, content_numbers}
use Rattle.paper.specs.Codes.{number_of}
use Rattle.paper.specs.declared.Refusal.{Refusal}
use Rattle.paper.specs.declared.Refusal.TheVariants.{Schema, Ambiguous}
use Rattle.content.specs.declared.Model.{Model}
use Rattle.paper_laws.specs.Basics.{length_pad}
use Rattle.content.specs.Model.{follow_words, ModelOf, NoModel, Modelled, length_words}
use Rattle.model_names.specs.Listed.{names_in}
use Rattle.ambiguity.specs.Unambiguous.{is_unambiguous, Bounded}
use Rattle.contentspec.specs.Together.{names_fit, names_are, model_bounded, model_unambiguous}

-- the symbols of a model, of at most 48 elements
abbrev pub InRange : List ℕ → Type 0
InRange s = all (between 0 (4 + most_elements)) s ≡ true

-- the block with what is known of the model
abbrev pub model_cells : Model → List ℕ → List ℕ
model_cells m b = set (set (set (set b count_at m.count) no_child_at (cond m.nullable 1 0)) first_at m.first) last_at m.last

-- the symbols are a model that is taken, and the block holds its numbers
pub record Holds (s block : List ℕ) : Type 0 where
  pub expr : Expr
  pub reads : (t : List ℕ) → modelled (expr_of s) t ≡ ok (model expr) t
  pub cells : block ≡ replicate count_at 0 ++ content_numbers (model expr)

-- they are none that is taken
pub record NotTaken (s : List ℕ) (e : Refusal) : Type 0 where
  pub refused : (t : List ℕ) → modelled (expr_of s) t ≡ stop (number_of e)

abbrev pub ModelIn : (s block : List ℕ) → Result Unit Refusal → Type 0
ModelIn s block (Ok x) = Holds s block
ModelIn s block (Err e) = NotTaken s e

-- ---- the block as the calls leave it

pub cells_put : (m : Model) (b : List ℕ) → set (set (set (set b 6 m.count) 7 (bool_byte m.nullable)) 8 m.first) 9 m.last ≡ model_cells m b
cells_put m b = ap (λ n. set (set (set (set b 6 m.count) 7 n) 8 m.first) 9 m.last) (go m.nullable)
  where
    go : (b : Bool) → bool_byte b ≡ cond b 1 0
    go true = refl
    go false = refl

-- the numbers of a model's parts are those of the model
numbers_put : (e : Expr) (r : Model) {x l g : List ℕ} → x ≡ replicate names_at 0 ++ (l ++ g) → r.count ≡ count e → r.nullable ≡ nullable e
    → r.first ≡ first_word 0 e → r.last ≡ last_word 0 e → l ≡ pad most_names (names e) → g ≡ follow_words e
    → model_cells r x ≡ replicate count_at 0 ++ content_numbers (model e)
numbers_put e r q c n f t a b = rw (q, c, n, f, t, a, b)

-- the block with the follow sets, and with the names too
abbrev pub with_follow : List ℕ → List ℕ → List ℕ
with_follow b g = put_mid follow_at most_names b g

abbrev pub with_names : List ℕ → List ℕ → List ℕ → List ℕ
with_names b g l = put_mid names_at most_names (with_follow b g) l

pub zeros_long : {b : List ℕ} → b ≡ replicate block_length 0 → block_length ≤ length b
zeros_long {b} z = rw z (omega arith)

-- a test for no model
pub model_none : {s g : List ℕ} {o : Option Model} → Modelled s g o → o ≡ None → NotTaken s Schema
model_none {s} {g} m n = record { refused = λ t. go t (expr_of s) refl }
  where
    lost : NoModel s g
    lost = m.none n

    go : (t : List ℕ) (o : Maybe Expr) → expr_of s ≡ o → modelled o t ≡ stop 2
    go t none p = refl
    go t (some e) p = by (leb (count e) most_names) refl
      where
        by : (f : Bool) → leb (count e) most_names ≡ f → cond f (cond (ambiguous e) (refuse 3) (pure (model e))) (refuse 2) t ≡ stop 2
        by true q = absurd (lost.never e p (leb-true (count e) most_names q))
        by false q = refl

module _ {s b g : List ℕ} {o : Option Model} {r : Model} (z : b ≡ replicate block_length 0) (m : Modelled s g o) (y : o ≡ Some r) where
  found : ModelOf s g r
  found = m.found r y

  follow_size : length g ≡ most_names
  follow_size =
      let e = found.expr in
      ap length found.follow ∙ length_pad most_names (map (follow_word 0 e) (from 0 (count e))) (omega (arith, length_words e, found.fits))

  follow_put : with_follow b g ≡ replicate follow_at 0 ++ g
  follow_put = rw z (ap (λ x. replicate follow_at 0 ++ x) (append-nil g))

  follow_long : length (with_follow b g) ≡ block_length
  follow_long = ap length follow_put ∙ omega (arith, length-append (replicate follow_at 0) g, follow_size)

  pub follow_room : follow_at ≤ length (with_follow b g)
  follow_room = omega (arith, follow_long)

  pub names_room : length (names_in s) ≤ length (take most_names (drop names_at (with_follow b g)))
  names_room = omega (arith, names_fit found, length-take most_names (drop names_at (with_follow b g)), length-drop names_at (with_follow b g), follow_long)

  module _ {l : List ℕ} (w : l ≡ sets (take most_names (drop names_at (with_follow b g))) 0 (names_in s)) where
    listed : l ≡ sets (replicate most_names 0) 0 (names_in s)
    listed = w ∙ rw follow_put

    names_size : length l ≡ most_names
    names_size = ap length listed ∙ length-sets (replicate most_names 0) 0 (names_in s) ∙ length-replicate {A = ℕ} most_names 0

    names_put : with_names b g l ≡ replicate names_at 0 ++ (l ++ g)
    names_put = rw follow_put

    pub names_long : length (with_names b g l) ≡ block_length
    names_long = ap length names_put ∙ omega (arith, length-append (replicate names_at 0) (l ++ g), length-append l g, names_size, follow_size)

    pub block_room : block_length ≤ length (with_names b g l)
    block_room = omega (arith, names_long)

    pub names_end : follow_at ≤ length (with_names b g l)
    names_end = omega (arith, names_long)

    names_part : take most_names (drop names_at (with_names b g l)) ≡ l
    names_part = rw names_put (take_at l g most_names names_size)

    follow_part : take most_names (drop follow_at (with_names b g l)) ≡ g
    follow_part = rw names_put (ap (take most_names) (drop_at l g most_names names_size) ∙ take_all most_names g (omega (arith, follow_size)))

    pub unambiguous_room : InRange s → Bounded r.count (take most_names (drop names_at (with_names b g l))) (take most_names (drop follow_at (with_names b g l)))
    unambiguous_room h = rw (names_part, follow_part) (model_bounded found listed most_elements (omega arith) h)

    module _ {c : Bool}
        (q : c ≡ is_unambiguous r.first (take r.count (take most_names (drop names_at (with_names b g l)))) (take r.count (take most_names (drop follow_at (with_names b g l))))) where
      tells : c ≡ not (ambiguous found.expr)
      tells = q ∙ rw (names_part, follow_part) (model_unambiguous found listed)

      is_ambiguous : c ≡ false → ambiguous found.expr ≡ true
      is_ambiguous f = not-false (ambiguous found.expr) (sym tells ∙ f)

      pub model_ambiguous : not c ≡ true → NotTaken s Ambiguous
      model_ambiguous n = record { refused = λ t. rw (found.reads, le-leb (count found.expr) most_names found.fits, is_ambiguous (not-true c n)) }

      pub model_put : {a : List ℕ} → not c ≡ false → a ≡ model_cells r (with_names b g l) → Holds s a
      model_put {a} n d =
          let e = found.expr in
          let o : ambiguous e ≡ false = not-true (ambiguous e) (sym tells ∙ not-false c n) in
          record {
            expr = e;
            reads = λ t. rw (found.reads, le-leb (count e) most_names found.fits, o);
            cells = d ∙ numbers_put e r names_put found.count found.nullable found.first found.last (names_are found listed) found.follow;
          }

-- The size of an edit's result, and what the code tells of it. Assumes nothing.
use Rattle.std.specs.Prelude.{◌≡◌, refl, Bool, true, false, ◌&&◌, List, ◌++◌, ℕ, ◌+◌, ◌-◌, ◌≤◌, ◌<◌, leb, length, take, drop, Result, Ok, Err}
use Rattle.std.proofs.Common.{sym, ap, ◌∙◌, arith, le-leb, length-append, length-drop, take_at, length-take-le}
use Rattle.std.proofs.Math.Bool.{and-true, and-false}
use Rattle.std.proofs.lemmas.Bool.{lt-leb}
use Rattle.paper.specs.declared.Operation.{Operation}
use Rattle.paper.specs.declared.Operation.TheVariants.{Insert, Remove, Replace, Set, Drop}
use Rattle.paper.specs.declared.Refusal.{Refusal}
use Rattle.paper.specs.declared.Refusal.TheVariants.{Room}
use Rattle.paper.specs.Basics.{most_tokens, most_deep}
use Rattle.paper.specs.Codes.{operation_of}
use Rattle.paper.specs.Tokens.{toks, deep}
use Rattle.paper.specs.Shape.{shallow}
use Rattle.paper.specs.Edits.{coming, splice, fits}
use Rattle.shape_laws.specs.Depth.{open_in}
use Rattle.form.specs.declared.Form.{Form}

-- an edit in form, of tokens `new` in a buffer of `room` places; `after` holds them
pub record Sized (room at n : ℕ) (new after : List ℕ) (f : Form) : Type 0 where
  pub good : fits room new ≡ true
  pub place : f.at ≡ at
  pub come : f.coming ≡ n
  pub size : f.used ≡ length new
  pub tokens : take f.used after ≡ new

abbrev pub Made : (room at n : ℕ) → (new after : List ℕ) → Result Form Refusal → Type 0
Made room at n new after (Ok f) = Sized room at n new after f
Made room at n new after (Err r) = (r ≡ Room) × (fits room new ≡ false)

-- ---- how deep it is

-- how deep a splice makes the document is told at its place
pub record Level (doc : List ℕ) (at cut : ℕ) (piece : List ℕ) : Type 0 where
  pub low : open_in (toks (take at doc)) ≤ most_deep
  pub told : shallow (toks (splice at cut piece doc)) ≡ leb (open_in (toks (take at doc)) + deep 0 (toks piece)) most_deep

-- ---- what comes

pub come_le : (o : Operation) (piece : List ℕ) → length (coming (operation_of o) piece) ≤ length piece
come_le Insert piece = omega arith
come_le Remove piece = omega arith
come_le Replace piece = omega arith
come_le Set piece = omega arith
come_le Drop piece = omega arith

module _ {o : Operation} (piece : List ℕ) where
  pub come_insert : o ≡ Insert → piece ≡ coming (operation_of o) piece
  come_insert e = rw e

  pub come_replace : o ≡ Replace → piece ≡ coming (operation_of o) piece
  come_replace e = rw e

  pub come_set : o ≡ Set → piece ≡ coming (operation_of o) piece
  come_set e = rw e

-- ---- the size of the result

module _ (doc : List ℕ) (at cut : ℕ) (piece : List ℕ) (h : at + cut ≤ length doc) where
  abbrev new : List ℕ
  new = splice at cut piece doc

  pub size_is : length new ≡ length doc - cut + length piece
  size_is =
      let b : length (take at doc) ≡ at = length-take-le at doc (omega arith) in
      omega (arith, length-append (take at doc) (piece ++ drop (at + cut) doc), length-append piece (drop (at + cut) doc), length-drop (at + cut) doc)

  module _ (room : ℕ) where
    pub made_long : most_tokens < length doc - cut + length piece → fits room (splice at cut piece doc) ≡ false
    made_long g = rw (size_is, lt-leb (length doc - cut + length piece) most_tokens g)

    pub made_past : room < length doc - cut + length piece → fits room (splice at cut piece doc) ≡ false
    made_past g = rw (size_is, lt-leb (length doc - cut + length piece) room g) (and-false (leb (length doc - cut + length piece) most_tokens && shallow (toks new)))

    module _ (few : length doc - cut + length piece ≤ most_tokens) (fit : length doc - cut + length piece ≤ room) where
      fits_is : fits room new ≡ shallow (toks new)
      fits_is = rw (size_is, le-leb (length doc - cut + length piece) most_tokens few, le-leb (length doc - cut + length piece) room fit) (and-true (shallow (toks new)))

      -- whether it is too deep is told before it is made
      module _ (v : Level doc at cut piece) {y : Bool} (ey : y ≡ leb (open_in (toks (take at doc)) + deep 0 (toks piece)) most_deep) where
        depth_is : fits room new ≡ y
        depth_is = fits_is ∙ v.told ∙ sym ey

        pub made_deep : y ≡ false → fits room (splice at cut piece doc) ≡ false
        made_deep g = depth_is ∙ g

        pub made_good : y ≡ true → (before : List ℕ) {after : List ℕ} → after ≡ splice at cut piece doc ++ drop (length doc - cut + length piece) before
            → Sized room at (length piece) (splice at cut piece doc) after (record { at = at; coming = length piece; used = length doc - cut + length piece })
        made_good g before s =
            record {
              good = depth_is ∙ g;
              place = refl;
              come = refl;
              size = sym size_is;
              tokens = ap (take (length doc - cut + length piece)) s ∙ take_at new (drop (length doc - cut + length piece) before) (length doc - cut + length piece) size_is;
            }

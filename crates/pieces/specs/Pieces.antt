-- What the code tells of a piece is what the paper asks of it, by the operation. Assumes nothing.
use Rattle.std.specs.Prelude.{◌≡◌, refl, Bool, false, List, [], ◌∷◌, ℕ, suc, ◌≤◌, ◌<◌, eqb, length}
use Rattle.std.proofs.Common.{◌∙◌, arith}
use borrow.Author.Tests.{le-leb, lt-leb, ne_eqb}
use Rattle.std.proofs.lemmas.List.{length-map}
use Rattle.paper.specs.declared.Operation.{Operation}
use Rattle.paper.specs.declared.Operation.TheVariants.{Insert, Remove, Replace, Set, Drop}
use Rattle.paper.specs.Basics.{most_tokens, null}
use Rattle.paper.specs.Codes.{operation_of}
use Rattle.paper.specs.Tokens.{tok_of, toks}
use Rattle.paper.specs.Edits.{by_operation, good_item, attr_with, some_values, good_piece}

empty_is : (p : List ℕ) → eqb (length p) 0 ≡ null (toks p)
empty_is [] = refl
empty_is (x ∷ p) = ne_eqb (suc (length p)) 0 (λ e. omega arith)

pub piece_long : (op : ℕ) (p : List ℕ) → most_tokens < length p → false ≡ good_piece op (toks p)
unfolding good_piece
piece_long op p h = rw (length-map p tok_of, lt-leb (length p) most_tokens h)

module _ (p : List ℕ) (h : length p ≤ most_tokens) where
  short : (op : ℕ) → by_operation op (good_item (toks p)) (null (toks p)) (good_item (toks p)) (attr_with some_values (toks p)) (attr_with null (toks p)) ≡ good_piece op (toks p)
  unfolding good_piece
  short op = rw (length-map p tok_of, le-leb (length p) most_tokens h)

  module _ {o : Operation} where
    pub piece_removed : o ≡ Remove → eqb (length p) 0 ≡ good_piece (operation_of o) (toks p)
    piece_removed e = rw e (empty_is p ∙ short 2)

    module _ {y : Bool} where
      pub piece_inserted : o ≡ Insert → y ≡ good_item (toks p) → y ≡ good_piece (operation_of o) (toks p)
      piece_inserted e ey = rw e (ey ∙ short 1)

      pub piece_replaced : o ≡ Replace → y ≡ good_item (toks p) → y ≡ good_piece (operation_of o) (toks p)
      piece_replaced e ey = rw e (ey ∙ short 3)

      pub piece_set : o ≡ Set → y ≡ attr_with some_values (toks p) → y ≡ good_piece (operation_of o) (toks p)
      piece_set e ey = rw e (ey ∙ short 4)

      pub piece_dropped : o ≡ Drop → y ≡ attr_with null (toks p) → y ≡ good_piece (operation_of o) (toks p)
      piece_dropped e ey = rw e (ey ∙ short 5)

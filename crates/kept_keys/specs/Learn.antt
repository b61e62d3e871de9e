-- A document learned: from an empty field and empty counts, they are those of the document. Assumes nothing.
use Rattle.std.specs.Prelude.{◌≡◌, refl, Bool, false, ◌||◌, List, ℕ, zero, suc, ◌+◌, ◌≤◌, length, get_or, replicate}
use Rattle.std.proofs.Common.{ap, ◌∙◌, zero-add, arith}
use Rattle.std.proofs.Math.Bool.{or-false}
use Rattle.std.proofs.lemmas.List.{length-map, length-replicate}
use Rattle.paper.specs.Basics.{most_tokens, elem}
use Rattle.paper.specs.Tokens.{tok_of, toks}
use Rattle.paper.specs.Rules.{of_table}
use Rattle.paper.specs.Judgement.{is_id, is_ref}
use Rattle.field.specs.Field.{marked, field_empty}
use Rattle.kept_laws.specs.Found.{found, found_few}
use Rattle.kept_laws.specs.Counts.{times, times_few}
use Rattle.key_moves.specs.Moves.{field_words, most_values, Come, Long, Room}
use Rattle.key_moves.specs.Turns.{ids_in, refs_in}
use Rattle.kept_keys.specs.Follow.{Keeps, from_name}

-- nothing is marked, and nothing is counted
pub record Empty (field counts : List ℕ) : Type 0 where
  pub long : Long field counts
  pub none_marked : (v : ℕ) → marked field v ≡ false
  pub none_counted : (v : ℕ) → get_or counts v 0 ≡ 0

module _ (table doc : List ℕ) {field counts : List ℕ} (z : Empty field counts) where
  pub learn_room : length doc ≤ most_tokens → Room counts (refs_in table doc (from_name 0 0))
  learn_room h = record {
    each = λ v.
        let l : List ℕ = found (is_ref (of_table table)) 0 0 (toks doc) in
        omega (arith, z.none_counted v, times_few v l, found_few (is_ref (of_table table)) 0 0 (toks doc), length-map doc tok_of);
  }

  pub learn_keeps : {field' counts' : List ℕ} {r : Bool}
      → Come field counts (ids_in table doc (from_name 0 0)) (refs_in table doc (from_name 0 0)) field' counts' r
      → length field' ≡ length field → length counts' ≡ length counts → Keeps table field' counts' (toks doc)
  learn_keeps k kf kc = record {
    long = record { words = kf ∙ z.long.words; values = kc ∙ z.long.values };
    ids = λ v. k.marks v ∙ ap (λ b. elem v (found (is_id (of_table table)) 0 0 (toks doc)) || b) (z.none_marked v) ∙ or-false (elem v (found (is_id (of_table table)) 0 0 (toks doc)));
    refs = λ v. k.tells v ∙ ap (λ n. n + times v (found (is_ref (of_table table)) 0 0 (toks doc))) (z.none_counted v) ∙ zero-add (times v (found (is_ref (of_table table)) 0 0 (toks doc)));
  }

-- a field and counts of zeros
pub empty_zeros : Empty (replicate field_words 0) (replicate most_values 0)
empty_zeros = record {
  long = record { words = length-replicate {A = ℕ} field_words 0; values = length-replicate {A = ℕ} most_values 0 };
  none_marked = λ v. (field_empty field_words).same v;
  none_counted = λ v. zero_at most_values v;
}
  where
    zero_at : (n i : ℕ) → ◌≡◌ {A = ℕ} (get_or (replicate n 0) i 0) 0
    zero_at zero i = refl
    zero_at (suc n) zero = refl
    zero_at (suc n) (suc i) = zero_at n i

-- What a copy from the front of s leaves in d, in the words of its callers. Assumes nothing.
use Rattle.std.specs.Prelude.{◌≡◌, List, ◌++◌, ℕ, ◌+◌, ◌≤◌, length, take, drop}
use Rattle.std.proofs.Common.{sym, ap, ◌∙◌, append-nil, zero-add, arith, drop_of_length-le, take_all}
use Rattle.std.proofs.Math.Seq.{paste, take-length}
use Rattle.std.proofs.lemmas.List.Edits.{sets, sets-eq}

-- to the front of d
pub copied_front : (d s : List ℕ) (n : ℕ) {e : List ℕ} → e ≡ paste d 0 (drop 0 s) n → e ≡ take n s ++ drop n d
copied_front d s n c = c ∙ ap (λ k. take n s ++ drop k d) (zero-add n)

-- over all of d
pub copied_whole : (d s : List ℕ) (n : ℕ) {e : List ℕ} → length s ≡ n → length d ≡ n → e ≡ paste d 0 (drop 0 s) n → e ≡ s
copied_whole d s n p q c = copied_front d s n c ∙ rw (take_all n s (omega arith), drop_of_length-le d {i = n} (omega arith)) (append-nil s)

-- all of s
pub copied_all : (d : List ℕ) (at : ℕ) (s : List ℕ) {e : List ℕ} → at + length s ≤ length d → e ≡ paste d at (drop 0 s) (length s) → e ≡ sets d at s
copied_all d at s h c = c ∙ rw take-length (sym (sets-eq s d at h))

-- The values of a kind, split at an edit: those before the place, those that go, those that come, and those behind. Assumes nothing.
use Rattle.std.specs.Prelude.{◌≡◌, Bool, true, List, ◌++◌, ℕ, ◌+◌, take, drop}
use Rattle.std.proofs.Common.{sym, ap, ◌∙◌}
use Rattle.paper.specs.declared.Tok.{Tok}
use Rattle.paper.specs.Shape.{is_element}
use Rattle.paper.specs.Edits.{splice}
use Rattle.shape_laws.specs.Splice.{parts}
use Rattle.shape_laws.specs.Five.{Allowed}
use Rattle.kept_laws.specs.Found.{found, last_start, last_attr, found_append}
use Rattle.kept_laws.specs.Behind.{behind}

-- at the place `at` of d, n tokens go and p comes
module _ (is : ℕ → ℕ → Bool) (at : ℕ) (d : List Tok) where
  abbrev pub ahead : List ℕ
  ahead = found is 0 0 (take at d)

  -- the values of x, if it stands at the place
  abbrev pub placed : List Tok → List ℕ
  placed x = found is (last_start 0 (take at d)) (last_attr 0 (take at d)) x

  abbrev pub goes : ℕ → List ℕ
  goes n = placed (take n (drop at d))

  abbrev pub comes : List Tok → List ℕ
  comes p = placed p

  abbrev pub stays : ℕ → List ℕ
  stays n =
      let c : List Tok = take n (drop at d) in
      found is (last_start (last_start 0 (take at d)) c) (last_attr (last_attr 0 (take at d)) c) (drop (at + n) d)

-- in the document before the edit
pub old_values : (is : ℕ → ℕ → Bool) (at n : ℕ) (d : List Tok) → found is 0 0 d ≡ ahead is at d ++ (goes is at d n ++ stays is at d n)
old_values is at n d =
    let b : List Tok = take at d in
    let c : List Tok = take n (drop at d) in
    let a : List Tok = drop (at + n) d in
    ap (found is 0 0) (sym (parts at n d)) ∙ found_append is 0 0 b (c ++ a)
    ∙ ap (λ l. found is 0 0 b ++ l) (found_append is (last_start 0 b) (last_attr 0 b) c a)

-- in the edited document
pub new_values : (is : ℕ → ℕ → Bool) (d : List Tok) → is_element d ≡ true → {at n : ℕ} {p : List Tok} → Allowed d at n p
    → found is 0 0 (splice at n p d) ≡ ahead is at d ++ (comes is at d p ++ stays is at d n)
new_values is d e {at} {n} {p} w =
    let b : List Tok = take at d in
    let a : List Tok = drop (at + n) d in
    found_append is 0 0 b (p ++ a)
    ∙ ap (λ l. found is 0 0 b ++ l) (found_append is (last_start 0 b) (last_attr 0 b) p a
    ∙ ap (λ l. found is (last_start 0 b) (last_attr 0 b) p ++ l) (sym (behind is d e w (last_start 0 b) (last_attr 0 b))))

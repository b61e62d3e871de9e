-- The law as code tests it, with the set of IDs and the counts of references kept from the edit before: what goes is taken out, what
-- comes is walked into the set, and then each value that went as an ID or came as a reference is looked at once. Assumes nothing.
use Rattle.std.specs.Prelude.{◌≡◌, true, ◌||◌, List, ◌++◌, ℕ, eqb}
use Rattle.paper.specs.declared.Tok.{Tok}
use Rattle.paper.specs.Basics.{all, elem}
use Rattle.paper.specs.Rules.{Rules}
use Rattle.paper.specs.Judgement.{is_id, is_ref}
use Rattle.kept_laws.specs.Lists.{new_in}
use Rattle.kept_laws.specs.Counts.{times}
use Rattle.kept_laws.specs.Split.{ahead, goes, comes, stays}

-- IDs: b before the place, c that go, m that come, r behind. References: b' before, m' that come, r' behind.
pub record Walked (b c m r b' m' r' : List ℕ) : Type 0 where
  -- what comes is walked into the set of what stays
  pub fresh : new_in (λ v. elem v (b ++ r)) m ≡ true
  -- a value that went as an ID or came as a reference is an ID now, or is referred to no more
  pub settled : all (λ v. elem v (b ++ (m ++ r)) || eqb (times v (b' ++ (m' ++ r'))) 0) (c ++ m') ≡ true

-- ---- the document

abbrev pub WalkedBy : Rules → ℕ → ℕ → List Tok → List Tok → Type 0
WalkedBy R at n p d =
    Walked (ahead (is_id R) at d) (goes (is_id R) at d n) (comes (is_id R) at d p) (stays (is_id R) at d n)
    (ahead (is_ref R) at d) (comes (is_ref R) at d p) (stays (is_ref R) at d n)

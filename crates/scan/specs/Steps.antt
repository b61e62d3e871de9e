-- What the steps of the scan answer, from what their parts answer. Assumes nothing.
use Rattle.std.specs.Prelude.{◌≡◌, false, ℕ, zero, suc, ◌+◌, ◌-◌, ◌*◌, ◌/◌, ◌%◌, ◌^◌, ◌≤◌, ◌<◌, leb}
use native.Mathlib.Omega.{arith}
use borrow.Author.Tests.{le-leb, lt-leb, lt-ltb, le-ltb}
use Rattle.paper.specs.Basics.{most_deep}
use Rattle.tokens.specs.Sorts.{by_sort_lem}
use Rattle.scan.specs.declared.Scan.{Scan}
use Rattle.scan.specs.Scan.{rules, follow, numbers, rise, is_attribute, is_value, stands, passed}

module _ (s : Scan) (sort n : ℕ) where
  pub stands_closed : s.level ≡ 0 → false ≡ stands s sort n
  unfolding stands
  stands_closed e = rw e

  module _ (a : s.level ≡ 0 → ⊥) where
    pub stands_deep : most_deep < s.level → false ≡ stands s sort n
    unfolding stands
    stands_deep d = rw (le-leb 1 s.level (omega arith), lt-leb s.level most_deep d)

    module _ (b : s.level ≤ most_deep) {r : ℕ} (er : r ≡ numbers sort) where
      pub stands_number : r ≤ n → false ≡ stands s sort n
      unfolding stands
      stands_number d = rw (le-leb 1 s.level (omega arith), le-leb s.level most_deep b, ← er, le-ltb n r d)

      module _ (d : n < r) where
        pub stands_sort : s.next / 2 ^ sort % 2 ≡ 0 → false ≡ stands s sort n
        unfolding stands
        stands_sort e = rw (le-leb 1 s.level (omega arith), le-leb s.level most_deep b, ← er, lt-ltb n r d, e)

        pub stands_order : {q : ℕ} → q ≡ is_attribute sort → (s.next / 2 ^ sort % 2 ≡ 0 → ⊥) → leb (s.least * q) n ≡ stands s sort n
        unfolding stands
        stands_order eq e =
            let one : s.next / 2 ^ sort % 2 ≡ 1 = omega arith in
            rw (le-leb 1 s.level (omega arith), le-leb s.level most_deep b, ← er, lt-ltb n r d, one, ← eq)

  pub passed_made : {a v x l : ℕ} → a ≡ is_attribute sort → v ≡ is_value sort → x ≡ follow sort → l ≡ rise sort
      → ◌≡◌ {A = Scan} (record { next = x; least = s.least * v + (n + 1) * a; level = s.level + l - 1 }) (passed s sort n)
  unfolding passed
  passed_made ea ev ex el = rw (ea, ev, ex, el)

-- how large the table's numbers are
pub attribute_le : (sort : ℕ) → sort < 8 → is_attribute sort ≤ 1
unfolding rules
attribute_le = by_sort_lem (λ s. is_attribute s ≤ 1) (omega arith) (omega arith) (omega arith) (omega arith) (omega arith) (omega arith) (omega arith) (omega arith)

pub value_le : (sort : ℕ) → sort < 8 → is_value sort ≤ 1
unfolding rules
value_le = by_sort_lem (λ s. is_value s ≤ 1) (omega arith) (omega arith) (omega arith) (omega arith) (omega arith) (omega arith) (omega arith) (omega arith)

pub rise_le : (sort : ℕ) → sort < 8 → rise sort ≤ 2
unfolding rules
rise_le = by_sort_lem (λ s. rise s ≤ 2) (omega arith) (omega arith) (omega arith) (omega arith) (omega arith) (omega arith) (omega arith) (omega arith)

pub times_le : (a b : ℕ) → b ≤ 1 → a * b ≤ a
times_le a zero h = omega arith
times_le a (suc zero) h = omega arith
times_le a (suc (suc b)) h = absurd (omega arith)

-- Bytes put into a buffer piece by piece. Assumes nothing.
use Rattle.std.specs.Prelude.{◌≡◌, refl, List, [], ◌++◌, ℕ, ◌+◌, ◌≤◌, length}
use Rattle.std.proofs.Common.{sym, ap, ◌∙◌, append_assoc, append-nil, arith, length-append}
use Rattle.lines.specs.Put.{Put, put_length, put_both, put_as, put_none}

-- of the bytes l, to be put into s from a place on, those before k stand in t and the rest is still to be put
pub record Putting (s : List ℕ) (to : ℕ) (l : List ℕ) (k : ℕ) (t rest : List ℕ) : Type 0 where
  pub done : List ℕ
  pub put : Put s to done k t
  pub long : length t ≡ length s
  pub whole : l ≡ done ++ rest
  pub room : k + length rest ≤ length t

module _ (s : List ℕ) (to : ℕ) (l : List ℕ) where
  pub putting_none : to + length l ≤ length s → Putting s to l to s l
  putting_none h = record { done = []; put = put_none s to (omega arith); long = refl; whole = refl; room = h }

  module _ (k : ℕ) (t rest : List ℕ) (p : Putting s to l k t rest) where
    pub putting_more : (x more : List ℕ) (n : ℕ) (u : List ℕ) → rest ≡ x ++ more → Put t k x n u → Putting s to l n u more
    putting_more x more n u e q =
        record {
          done = p.done ++ x;
          put = put_both p.put q;
          long = put_length q ∙ p.long;
          whole = p.whole ∙ ap (λ z. p.done ++ z) e ∙ sym (append_assoc p.done x more);
          room = omega (arith, p.room, q.place, put_length q, ap length e, length-append x more);
        }

    pub putting_all : rest ≡ [] → Put s to l k t
    putting_all e = put_as p.put (sym (p.whole ∙ ap (λ z. p.done ++ z) e ∙ append-nil p.done))

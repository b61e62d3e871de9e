-- The calls that a host would make for the edits of a list, each on what the one before it left, up to the first refusal; and that a list
-- comes to what they come to. Of any single call. Assumes nothing.
use Rattle.std.specs.Prelude.{◌≡◌, refl, ◌≢◌, Bool, true, false, cond, List, [], ◌∷◌, ℕ, suc, ◌+◌, eqb, take}
use Rattle.std.proofs.Common.{sym, ap, ◌∙◌, zero-add, add-zero, add-suc, suc-add, eqb-true}
use Rattle.std.proofs.lemmas.Bool.{eqb-false}
use Rattle.paper.specs.Edits.{Request}
use Rattle.paper.specs.Lists.{Listed, run_list}

module _ {S : Type 0} (call : S → Request → S) (number : S → ℕ) where
  -- the single calls, each with what it comes to
  abbrev pub calls : (o : S) → List Request → List (Request × S)
  calls o [] = []
  calls o (q ∷ l) = (q, call o q) ∷ cond (eqb (number (call o q)) 0) (calls (call o q) l) []

  -- what the last one comes to; o, if there is none
  abbrev pub last_of : (o : S) → List (Request × S) → S
  last_of o [] = o
  last_of o (x ∷ m) = last_of x.1 m

  -- how many were done
  abbrev pub done_in : List (Request × S) → ℕ
  done_in [] = 0
  done_in (x ∷ m) = cond (eqb (number x.1) 0) (suc (done_in m)) (done_in m)

  -- edits made one after another, as single calls
  abbrev pub by_singles : (o : S) → List Request → Listed S
  by_singles o l = record { last = last_of o (calls o l); done = done_in (calls o l) }

  run_is_calls : (l : List Request) (o : S) (done : ℕ) → run_list call number done o l ≡ record { last = last_of o (calls o l); done = done + done_in (calls o l) }
  run_is_calls [] o done = ap (λ n. record { last = o; done = n }) (sym (add-zero done))
  run_is_calls (q ∷ l) o done = go (eqb (number (call o q)) 0) refl (run_is_calls l (call o q) (suc done))
    where
      go : (b : Bool) → eqb (number (call o q)) 0 ≡ b
          → run_list call number (suc done) (call o q) l ≡ record { last = last_of (call o q) (calls (call o q) l); done = suc done + done_in (calls (call o q) l) }
          → cond b (run_list call number (suc done) (call o q) l) (record { last = call o q; done = done })
          ≡ record {
            last = last_of (call o q) (cond b (calls (call o q) l) []);
            done = done + cond (eqb (number (call o q)) 0) (suc (done_in (cond b (calls (call o q) l) []))) (done_in (cond b (calls (call o q) l) []));
          }
      go true e h =
          rw e (h ∙ ap (λ n. record { last = last_of (call o q) (calls (call o q) l); done = n }) (suc-add done (done_in (calls (call o q) l)) ∙ sym (add-suc done (done_in (calls (call o q) l)))))
      go false e h = rw e (ap (λ n. record { last = call o q; done = n }) (sym (add-zero done)))

  pub run_singles : (l : List Request) (o : S) → run_list call number 0 o l ≡ by_singles o l
  run_singles l o = run_is_calls l o 0 ∙ ap (λ n. record { last = last_of o (calls o l); done = n }) (zero-add (done_in (calls o l)))

  -- The edits that were done are, by themselves, all done.
  pub singles_done : (l : List Request) (o : S) → number o ≡ 0
      → let d : ℕ = (by_singles o l).done in (number (by_singles o (take d l)).last ≡ 0) × ((by_singles o (take d l)).done ≡ d)
  singles_done [] o z = (z, refl)
  singles_done (q ∷ l) o z = go (eqb (number (call o q)) 0) refl (singles_done l (call o q))
    where
      go : (b : Bool) → eqb (number (call o q)) 0 ≡ b
          → let next : S = call o q in
          (number next ≡ 0 → (number (by_singles next (take (by_singles next l).done l)).last ≡ 0) × ((by_singles next (take (by_singles next l).done l)).done ≡ (by_singles next l).done))
          → let d : ℕ = cond b (suc (done_in (cond b (calls next l) []))) (done_in (cond b (calls next l) [])) in
          (number (by_singles o (take d (q ∷ l))).last ≡ 0) × ((by_singles o (take d (q ∷ l))).done ≡ d)
      go true e h = let (y, f) = h (eqb-true (number (call o q)) 0 e) in rw e (y, ap suc f)
      go false e h = (z, refl)

  -- Where a refused call keeps what it was made on, edits that end in a refusal leave what those that were done left.
  module _ (Keeps : S → S → Type 0) (keeps : (o : S) (q : Request) → number (call o q) ≢ 0 → Keeps o (call o q)) where
    pub singles_stand : (l : List Request) (o : S) → number o ≡ 0 → number (by_singles o l).last ≢ 0
        → Keeps (by_singles o (take (by_singles o l).done l)).last (by_singles o l).last
    singles_stand [] o z n = absurd (n z)
    singles_stand (q ∷ l) o z n = go (eqb (number (call o q)) 0) refl (λ y m. singles_stand l (call o q) y m) n
      where
        go : (b : Bool) → eqb (number (call o q)) 0 ≡ b
            → let next : S = call o q in
            (number next ≡ 0 → number (by_singles next l).last ≢ 0 → Keeps (by_singles next (take (by_singles next l).done l)).last (by_singles next l).last)
            → let m : List (Request × S) = cond b (calls next l) [] in
            number (last_of next m) ≢ 0
            → Keeps (by_singles o (take (cond (eqb (number next) 0) (suc (done_in m)) (done_in m)) (q ∷ l))).last (last_of next m)
        go true e h n = rw (e, e) (h (eqb-true (number (call o q)) 0 e) n)
        go false e h n = rw e (keeps o q (eqb-false (number (call o q)) 0 e))

-- "The second buffer ends with the last document reached, 0 up to the longest reached (the starting one included), then its old
-- contents". Assumes nothing.
use Rattle.std.specs.Prelude.{◌≡◌, refl, ◌⊎◌, Bool, true, false, cond, List, [], ◌∷◌, ◌++◌, ℕ, zero, suc, ◌+◌, ◌-◌, ◌≤◌, max, eqb, length, drop, replicate}
use Rattle.std.proofs.Common.{sym, ap, ap₂, ◌∙◌, inl, inr, arith, zero-add, suc-add, eqb-true, drop-drop}
use Rattle.std.proofs.Math.Decide.{ℕ_discrete}
use Rattle.std.proofs.Math.Seq.{drop-append-add}
use Rattle.paper.specs.Edits.{Request, edited, form_fault, written}
use Rattle.paper.specs.Groups.{Work, worked, reached_in, after, AllInForm}

-- ---- one document written over another

zeros_join : (a b : ℕ) (t : List ℕ) → replicate a 0 ++ (replicate b 0 ++ t) ≡ replicate (a + b) 0 ++ t
zeros_join zero b t = rw zero-add
zeros_join (suc a) b t = rw suc-add (ap (λ l. 0 ∷ l) (zeros_join a b t))

zeros_drop : (n k : ℕ) (t : List ℕ) → drop k (replicate n 0 ++ t) ≡ replicate (n - k) 0 ++ drop (k - n) t
zeros_drop zero k t = let z : 0 - k ≡ 0 = omega arith in let y : k - 0 ≡ k = omega arith in rw (z, y)
zeros_drop (suc n) zero t = let z : 0 - suc n ≡ 0 = omega arith in let y : suc n - 0 ≡ suc n = omega arith in rw (z, y)
zeros_drop (suc n) (suc k) t = let x : suc n - suc k ≡ n - k = omega arith in let y : suc k - suc n ≡ k - n = omega arith in rw (x, y) (zeros_drop n k t)

gap : (d e n : ℕ) → d - e + (n - (e - d)) ≡ d + n - e
gap d e n = omega arith

over : (d e n : ℕ) → d + n + (e - d - n) ≡ max (d + n) e
over d e n = omega arith

-- where the first is longer there is 0 then, up to where the first left 0; behind that stands what stood there
pub written_twice : (s : List ℕ) (m : ℕ) (d e : List ℕ) → written (written s m d) (length d) e ≡ written s (max m (length d)) e
written_twice s m d e =
    let n : ℕ = m - length d in
    let k : ℕ = length e - length d in
    let t : List ℕ = drop (max m (length d)) s in
    let there : max (length d) (length e) ≡ length d + k = omega arith in
    let most : max m (length d) ≡ length d + n = omega arith in
    let zeros : length d - length e + (n - k) ≡ max m (length d) - length e = gap (length d) (length e) n ∙ ap (λ j. j - length e) (sym most) in
    let behind : max m (length d) + (k - n) ≡ max (max m (length d)) (length e) = rw most (over (length d) (length e) n) in
    ap (λ l. e ++ (replicate (length d - length e) 0 ++ l))
    (ap (λ j. drop j (written s m d)) there ∙ drop-append-add d (replicate n 0 ++ t) k ∙ zeros_drop n k t)
    ∙ ap (λ l. e ++ l) (zeros_join (length d - length e) (n - k) (drop (k - n) t)
    ∙ ap₂ (λ i l. replicate i 0 ++ l) zeros (drop-drop (k - n) (max m (length d)) s ∙ ap (λ j. drop j s) behind))

-- ---- the longest reached

pub grows : (room k m : ℕ) (doc : List ℕ) (es : List Request) → m ≤ (worked room k m doc es).longest
grows room k m doc [] = omega arith
grows room k m doc (q ∷ es) = go (eqb (form_fault room q doc) 0) (grows room (suc k) (max m (length (edited q doc))) (edited q doc) es)
  where
    go : (b : Bool) → max m (length (edited q doc)) ≤ (worked room (suc k) (max m (length (edited q doc))) (edited q doc) es).longest
        → let v : Work = cond b (worked room (suc k) (max m (length (edited q doc))) (edited q doc) es) (record { number = form_fault room q doc; which = k; doc = doc; longest = m }) in
        m ≤ v.longest
    go true h = omega arith
    go false h = omega arith

-- no document that edits in form reach is longer
pub none_longer : (room k m : ℕ) (doc : List ℕ) (a b : List Request) → length doc ≤ m → AllInForm room a doc → length (after a doc) ≤ (worked room k m doc (a ++ b)).longest
none_longer room k m doc [] b h f = omega (arith, grows room k m doc b)
none_longer room k m doc (q ∷ a) b h (f, r) = rw f (none_longer room (suc k) (max m (length (edited q doc))) (edited q doc) a b (omega arith) r)

-- edits in form at the front reach a document of length n
abbrev pub Reaches : (room : ℕ) → (doc : List ℕ) → List Request → (n : ℕ) → Type 0
Reaches room doc es n = (a : List Request) × (b : List Request) × (es ≡ a ++ b) × AllInForm room a doc × (length (after a doc) ≡ n)

-- and one of them is as long, the starting one included
pub one_as_long : (room k m : ℕ) (doc : List ℕ) (es : List Request) → ((worked room k m doc es).longest ≡ m) ⊎ Reaches room doc es (worked room k m doc es).longest
one_as_long room k m doc [] = inl refl
one_as_long room k m doc (q ∷ es) = go (eqb (form_fault room q doc) 0) refl (one_as_long room (suc k) (max m (length (edited q doc))) (edited q doc) es)
  where
    go : (b : Bool) → eqb (form_fault room q doc) 0 ≡ b
        → let w : Work = worked room (suc k) (max m (length (edited q doc))) (edited q doc) es in
        (w.longest ≡ max m (length (edited q doc))) ⊎ Reaches room (edited q doc) es w.longest
        → let v : Work = cond b w (record { number = form_fault room q doc; which = k; doc = doc; longest = m }) in
        (v.longest ≡ m) ⊎ Reaches room doc (q ∷ es) v.longest
    go true e (inl h) = elim (ℕ_discrete (max m (length (edited q doc))) m) [
      | yes z ↦ inl (h ∙ z)
      | no n ↦ inr (q ∷ [], es, refl, (eqb-true (form_fault room q doc) 0 e, tt), omega arith)
    ]
    go true e (inr (a, b, s, f, l)) = inr (q ∷ a, b, ap (λ x. q ∷ x) s, (eqb-true (form_fault room q doc) 0 e, f), l)
    go false e h = inl refl

-- ---- the buffer

-- every place of it
pub second_told : (second : List ℕ) (w : Work) → length w.doc ≤ w.longest
    → reached_in second w ≡ w.doc ++ (replicate (w.longest - length w.doc) 0 ++ drop w.longest second)
second_told second w h = let most : max w.longest (length w.doc) ≡ w.longest = omega arith in rw most

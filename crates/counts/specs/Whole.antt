-- The counts after an edit, by what goes and what comes, and a fresh count. Assumes nothing.
use Rattle.std.specs.Prelude.{◌≡◌, refl, Option, Some, None, Bool, true, false, cond, ◌&&◌, List, [], ◌∷◌, map, ℕ, zero, suc, ◌+◌, ◌≤◌, ◌<◌, ltb, ℤ, pos, ◌+ℤ◌, ◌-ℤ◌, length, get_or, replicate}
use Rattle.std.proofs.Common.{sym, ap, ap₂, ◌∙◌, arith, le-leb, le-ltb, ext_get_or}
use Rattle.std.proofs.Math.IntN.{+ℤ_idr}
use Rattle.std.proofs.lemmas.List.{length-map}
use Rattle.paper.specs.declared.Tok.{Tok}
use Rattle.paper.specs.Basics.{most_tokens, most_elements, all}
use Rattle.paper.specs.Tokens.{toks}
use Rattle.paper.specs.Counts.{tally, counted, counts_by, fresh, moved_from, count_good}
use Rattle.basic_laws.specs.Bools.{both}
use Rattle.tallies.specs.Tallies.{names_by, names_long, names_at, tallies, tallies_long, tallies_at, tallies_few, tallies_none}
use Rattle.counts.specs.Moved.{few, FewEach, moved_at, moved_by, Numbers}

-- ---- the counts by their places

moved_length : (goes comes : List Tok) (E e : ℕ) (l : List ℤ) → length (moved_from goes comes E e l) ≡ length l
moved_length goes comes E e [] = refl
moved_length goes comes E e (n ∷ l) = ap suc (moved_length goes comes E (suc e) l)

from_at : (goes comes : List Tok) (E e : ℕ) (l : List ℤ) (i : ℕ) → i < length l
    → get_or (moved_from goes comes E e l) i (pos 0)
    ≡ cond (ltb (e + i) E) (get_or l i (pos 0) +ℤ pos (tally (e + i) comes) -ℤ pos (tally (e + i) goes)) (get_or l i (pos 0))
from_at goes comes E e [] i h = absurd (omega arith)
from_at goes comes E e (n ∷ l) zero h = ap (λ k. cond (ltb k E) (n +ℤ pos (tally k comes) -ℤ pos (tally k goes)) n) (omega arith)
from_at goes comes E e (n ∷ l) (suc i) h =
    from_at goes comes E (suc e) l i (omega arith)
    ∙ ap (λ k. cond (ltb k E) (get_or l i (pos 0) +ℤ pos (tally k comes) -ℤ pos (tally k goes)) (get_or l i (pos 0))) (omega arith)

-- a name of E and above moves by nothing
by_name : (n : ℤ) (c g : ℕ) (b : Bool) → n +ℤ pos (cond b c 0) -ℤ pos (cond b g 0) ≡ cond b (n +ℤ pos c -ℤ pos g) n
by_name n c g true = refl
by_name n c g false = +ℤ_idr (n +ℤ pos 0) ∙ +ℤ_idr n

moved_is : (E : ℕ) (goes comes : List Tok) (counts : List ℤ) → length counts ≡ most_elements
    → moved_by counts (tallies E goes) (tallies E comes) ≡ moved_from goes comes E 0 counts
unfolding moved_by
moved_is E goes comes counts long =
    let l : List ℤ = names_by (moved_at counts (tallies E goes) (tallies E comes)) 0 most_elements in
    let m : List ℤ = moved_from goes comes E 0 counts in
    let ll : length l ≡ most_elements = names_long (moved_at counts (tallies E goes) (tallies E comes)) 0 most_elements in
    let lm : length m ≡ most_elements = moved_length goes comes E 0 counts ∙ long in
    ext_get_or (pos 0) l m (ll ∙ sym lm) (λ i h. go i (omega arith))
  where
    go : (i : ℕ) → i < most_elements
        → get_or (names_by (moved_at counts (tallies E goes) (tallies E comes)) 0 most_elements) i (pos 0) ≡ get_or (moved_from goes comes E 0 counts) i (pos 0)
    go i h =
        names_at (pos 0) (moved_at counts (tallies E goes) (tallies E comes)) 0 most_elements i h
        ∙ ap (moved_at counts (tallies E goes) (tallies E comes)) (omega arith)
        ∙ ap₂ (λ c g. get_or counts i (pos 0) +ℤ pos c -ℤ pos g) (tallies_at E comes i h) (tallies_at E goes i h)
        ∙ by_name (get_or counts i (pos 0)) (tally i comes) (tally i goes) (ltb i E)
        ∙ sym (from_at goes comes E 0 counts i (omega (arith, long))
        ∙ ap (λ k. cond (ltb k E) (get_or counts i (pos 0) +ℤ pos (tally k comes) -ℤ pos (tally k goes)) (get_or counts i (pos 0))) (omega arith))

-- ---- the ways out

pub tallies_each : (E : ℕ) (l : List ℕ) {t : List ℕ} → length l ≤ most_tokens → t ≡ tallies E (toks l) → FewEach t
tallies_each E l h e = rw e (record { long = tallies_long E (toks l); most = tallies_few E l h })

-- numbers of counts that are equal
pub numbers_as : {a b : List ℤ} → a ≡ b → (r : Option (List ℕ)) → Numbers a r → Numbers b r
numbers_as e (Some now) n = (n.0, n.1 ∙ e)
numbers_as e None n = ap (all count_good) (sym e) ∙ n

pub moved_all : (E : ℕ) (goes comes : List Tok) (counts : List ℤ) {g c : List ℕ} → length counts ≡ most_elements → g ≡ tallies E goes → c ≡ tallies E comes
    → (r : Option (List ℕ)) → Numbers (moved_by counts g c) r → Numbers (moved_from goes comes E 0 counts) r
moved_all E goes comes counts long eg ec = numbers_as (ap₂ (moved_by counts) eg ec ∙ moved_is E goes comes counts long)

-- ---- counts as they are

unmoved : (e : ℕ) (l : List ℤ) → moved_from [] [] 0 e l ≡ l
unmoved e [] = refl
unmoved e (n ∷ l) = ap₂ (λ b m. cond b (n +ℤ pos 0 -ℤ pos 0) n ∷ m) (le-ltb e 0 (omega arith)) (unmoved (suc e) l)

pub none_few : FewEach (replicate most_elements 0)
none_few = rw (tallies_none 0) (record { long = tallies_long 0 []; most = tallies_few 0 [] (omega arith) })

pub stands_all : (counts : List ℤ) → length counts ≡ most_elements
    → (r : Option (List ℕ)) → Numbers (moved_by counts (replicate most_elements 0) (replicate most_elements 0)) r → Numbers counts r
stands_all counts long = numbers_as (ap₂ (moved_by counts) (tallies_none 0) (tallies_none 0) ∙ moved_is 0 [] [] counts long ∙ unmoved 0 counts)

-- ---- a fresh count

by_pos : (f : ℕ → ℕ) (E e k : ℕ) → map pos (names_by (λ e. counted E e (f e)) e k) ≡ counts_by f E e k
by_pos f E e zero = refl
by_pos f E e (suc k) = ap (λ l. pos (counted E e (f e)) ∷ l) (by_pos f E (suc e) k)

pub fresh_is : (E : ℕ) (d : List Tok) → map pos (tallies E d) ≡ fresh E d
unfolding tallies fresh
fresh_is E d = by_pos (λ e. tally e d) E 0 most_elements

few_all : (l : List ℕ) → ((i : ℕ) → get_or l i 0 ≤ most_tokens) → all few l ≡ true
few_all [] h = refl
few_all (n ∷ l) h = both (le-leb n most_tokens (h 0)) (few_all l (λ i. h (suc i)))

module _ (E : ℕ) (doc : List ℕ) {t : List ℕ} (h : length doc ≤ most_tokens) (e : t ≡ tallies E (toks doc)) where
  pub fresh_long : length t ≡ most_elements
  fresh_long = ap length e ∙ tallies_long E (toks doc)

  pub fresh_small : all few t ≡ true
  fresh_small = few_all t (tallies_each E doc h e).most

  pub fresh_put : {counts : List ℤ} → counts ≡ map pos t → counts ≡ fresh E (toks doc)
  fresh_put p = p ∙ ap (map pos) e ∙ fresh_is E (toks doc)

-- The table of a schema that was read is proper. Assumes nothing.
use Rattle.std.specs.Prelude.{◌≡◌, refl, Bool, true, cond, List, ◌++◌, map, T, leb, take, drop, get_or, replicate}
use Rattle.std.proofs.Common.{sym, ◌∙◌, inl, inr, append_assoc, not-suc-le-zero, le_of_suc-le-suc, drop-drop, take_at, drop_at}
use Rattle.std.proofs.Math.Path.{ap, subst}
use Rattle.std.proofs.Math.Bool.{false}
use Prim.Native.Nat.{ℕ, zero, suc, ◌+◌, ◌-◌, ◌^◌, ◌≤◌, ◌<◌}
use native.Mathlib.Omega.{arith}
use borrow.Author.Tests.{le-leb, lt-ltb}
use Rattle.std.proofs.Math.Dec.{ltb}
use Rattle.std.proofs.Math.ListN.{length}
use Rattle.std.proofs.lemmas.List.{length-replicate, length-map}
use Rattle.paper.specs.Basics.{most_names, all, from, pad}
use Rattle.paper.specs.Schema.{Attribute, Content, empty, text, model, Element}
use Rattle.paper.specs.Table.{names_at, follow_at, block_of}
use Rattle.paper.specs.Table.{zeros, proper_next, proper_model, proper_block}
use Rattle.paper.specs.Rules.{undeclared}
use Rattle.paper.specs.Expressions.{Expr, names, count, Ambiguous}
use Rattle.content_laws.specs.Names.{length_names, count_some}
use Rattle.paper.specs.Sets.{nullable, first, follow, bit, first_word, last_word, follow_word}
use Rattle.basic_laws.specs.Bools.{both}
use Rattle.paper_laws.specs.Basics.{length_pad, length_from}
use Rattle.paper_laws.specs.Chosen.{Free, distinct_iff}
use Rattle.content_laws.specs.Words.{first_word_lem, follow_word_lem, first_fits, last_fits, follow_fits}
use Rattle.content_laws.specs.Ambiguity.{Clash}
use Rattle.content_laws.proofs.Ambiguity.{ambiguous_iff}
use Rattle.table_laws.specs.Blocks.{Fine, not_ambiguous, ten}
use Rattle.table_laws.specs.SameRules.{FineAll, none_left as no_more, one_more as and-more}
use Rattle.table_laws.specs.Accepted.{Good, GoodElement, GoodAll, none_left, one_more}
use Rattle.table_laws.specs.ProperSets.{sets_proper}

-- ---- a model

module _ (e : Expr) (fine : Fine e) where
  twins : (S : ℕ → Bool) (w : ℕ) → ((k : ℕ) → bit w k ≡ S k) → (Clash e S → Ambiguous e) → Free w (names e)
  twins S w same c x y i j p q s =
      not_ambiguous fine (c (x, y, subst T (sym (sym (same x) ∙ p)) tt, subst T (sym (sym (same y) ∙ q)) tt, record { differ = λ z. omega arith; same = s }))

  first_free : Free (first_word 0 e) (names e)
  first_free = twins (first 0 e) (first_word 0 e) (first_word_lem 0 e) (λ c. (ambiguous_iff e).1 (inl c))

  follow_free : (k : ℕ) → Free (follow_word 0 e k) (names e)
  follow_free k = twins (follow 0 e k) (follow_word 0 e k) (follow_word_lem 0 e k) (λ c. (ambiguous_iff e).1 (inr (k, c)))

pub zeros_replicate : (n : ℕ) → zeros (replicate n 0) ≡ true
zeros_replicate zero = refl
zeros_replicate (suc n) = zeros_replicate n

module _ (f : ℕ → ℕ) (P : ℕ → Bool) (h : (k : ℕ) → P (f k) ≡ true) where
  all_from : (b n : ℕ) → all P (map f (from b n)) ≡ true
  all_from b zero = refl
  all_from b (suc n) = both (h b) (all_from (suc b) n)

module _ (E : ℕ) (l : List Attribute) (e : Expr) (g : Good E e) where
  abbrev b : List ℕ
  b = block_of (record { content = model e; attributes = l })

  abbrev n : ℕ
  n = count e

  abbrev M : List ℕ
  M = map (follow_word 0 e) (from 0 n)

  abbrev F : List ℕ
  F = pad most_names M

  abbrev Z : List ℕ
  Z = replicate (most_names - length (names e)) 0

  small : n ≤ most_names
  small = g.fine.small

  long_names : length (names e) ≤ most_names
  long_names = omega (arith, length_names e, small)

  long_M : length M ≡ n
  long_M = length-map (from 0 n) (follow_word 0 e) ∙ length_from 0 n

  used : take n (drop names_at b) ≡ names e
  used = ap (take n) (append_assoc (names e) Z F) ∙ take_at (names e) (Z ++ F) n (length_names e)

  unused : take (most_names - n) (drop (names_at + n) b) ≡ Z
  unused =
      ap (take (most_names - n)) (ap (λ i. drop i b) (ten n) ∙ ap (drop n) (append_assoc (names e) Z F) ∙ drop_at (names e) (Z ++ F) n (length_names e))
      ∙ take_at Z F (most_names - n) (length-replicate (most_names - length (names e)) 0 ∙ ap (λ k. most_names - k) (length_names e))

  follows : drop follow_at b ≡ F
  follows = drop_at (pad most_names (names e)) F most_names (length_pad most_names (names e) long_names)

  follow_used : take n (drop follow_at b) ≡ M
  follow_used = ap (take n) follows ∙ take_at M (replicate (most_names - length M) 0) n long_M

  follow_unused : drop (follow_at + n) b ≡ replicate (most_names - length M) 0
  follow_unused = sym (drop-drop n follow_at b) ∙ ap (drop n) follows ∙ drop_at M (replicate (most_names - length M) 0) n long_M

  flag_low : (c : Bool) → leb (cond c 1 0) 1 ≡ true
  flag_low true = refl
  flag_low false = refl

  next_proper : (w : ℕ) → w < 2 ^ n → Free w (names e) → proper_next n (take n (drop names_at b)) w ≡ true
  next_proper w h f = subst (λ u. proper_next n u w ≡ true) (sym used) (both (lt-ltb w (2 ^ n) h) ((distinct_iff w (names e)).1 f))

  pub model_proper : proper_model E b ≡ true
  unfolding proper_model
  model_proper =
      let inside : 0 + n ≤ n = omega arith in
      both (both (both (both (both (both (both
      (both (le-leb 1 n (count_some e)) (le-leb n most_names small))
      (flag_low (nullable e)))
      (next_proper (first_word 0 e) (first_fits 0 e n inside) (first_free e g.fine)))
      (lt-ltb (last_word 0 e) (2 ^ n) (last_fits 0 e n inside)))
      (subst (λ u. all (λ a. ltb a E) u ≡ true) (sym used) g.below))
      (ap zeros unused ∙ zeros_replicate (most_names - length (names e))))
      (ap (all (proper_next n (take n (drop names_at b)))) follow_used
      ∙ all_from (follow_word 0 e) (proper_next n (take n (drop names_at b))) (λ k. next_proper (follow_word 0 e k) (follow_fits 0 e k n inside) (follow_free e g.fine k)) 0 n))
      (ap zeros follow_unused ∙ zeros_replicate (most_names - length M))

-- ---- the table

pub block_proper : (E : ℕ) (x : Element) → GoodElement E x → proper_block E (block_of x) ≡ true
unfolding proper_block
block_proper E x g = go x.content g.model_good
  where
    go : (c : Content) → ((e : Expr) → c ≡ model e → Good E e) → proper_block E (block_of (record { content = c; attributes = x.attributes })) ≡ true
    go empty h = both (sets_proper (record { content = empty; attributes = x.attributes }) g.rising) refl
    go text h = both (sets_proper (record { content = text; attributes = x.attributes }) g.rising) refl
    go (model e) h = both (sets_proper (record { content = model e; attributes = x.attributes }) g.rising) (model_proper E x.attributes e (h e refl))

pub fine_all : {E : ℕ} {l : List Element} → GoodAll E l → FineAll l
fine_all none_left = no_more
fine_all (one_more g gs) = and-more (record { fine = λ e q. (g.model_good e q).fine }) (fine_all gs)

pub good_at : (E : ℕ) (l : List Element) → GoodAll E l → (e : ℕ) → e < length l → GoodElement E (get_or l e undeclared)
good_at E l none_left e h = absurd (not-suc-le-zero h)
good_at E l (one_more g gs) zero h = g
good_at E l (one_more {l = l'} g gs) (suc e) h = good_at E l' gs e (le_of_suc-le-suc h)

-- The edits that are left from a place of a list on, for a loop over them. Assumes nothing.
use Rattle.std.specs.Prelude.{◌≡◌, refl, Bool, true, false, List, [], ◌∷◌, ℕ, zero, suc, ◌+◌, ◌-◌, ◌≤◌, ◌<◌, length, drop}
use Rattle.std.proofs.Common.{sym, ap, ◌∙◌, inl, inr, arith, drop_of_length-le}
use Rattle.paper.specs.Basics.{most_edits}
use Rattle.paper.specs.Edits.{Request}
use Rattle.paper.specs.Lists.{Split, fault, edits, before, split_from, split_list, fault_of}
use Rattle.basic_laws.specs.Lists.{drop_next}
use Rattle.list_laws.specs.Exactly.{none_left, four_or_five}
use Rattle.edit_list.specs.Places.{whole, Within, edit_at, request_of, whole_within, split_whole, split_broken}

-- behind so many edits these are left
pub record Left (list : List ℕ) (at begun : ℕ) (es : List Request) : Type 0 where
  pub within : at ≤ length list
  pub few : begun ≤ most_edits
  pub splits : split_from (most_edits - begun) (drop at list) ≡ edits es

-- a fault is no edits
no_edits : {A : Type 0} (n : ℕ) (es : List Request) → fault n ≡ edits es → A
no_edits n es e = let z : ◌≡◌ {A = ℕ} 0 1 = cc in absurd (omega arith)

-- ---- the whole list

-- the edits of a list without a fault, all of them left at its front
pub record Whole (list : List ℕ) : Type 0 where
  pub all : List Request
  pub some : 0 < length list
  pub splits : split_list list ≡ edits all
  pub left : Left list 0 0 all

pub left_all : (list : List ℕ) → 0 ≡ fault_of (split_list list) → Whole list
unfolding split_list
left_all [] z = absurd (omega arith)
left_all (x ∷ list) z = go (split_from most_edits (x ∷ list)) refl z
  where
    go : (s : Split) → split_from most_edits (x ∷ list) ≡ s → 0 ≡ fault_of s → Whole (x ∷ list)
    go (fault n) e z = elim (four_or_five (x ∷ list) n e) [ inl f ↦ absurd (omega arith) | inr f ↦ absurd (omega arith) ]
    go (edits es) e z = record { all = es; some = omega arith; splits = e; left = record { within = omega arith; few = omega arith; splits = e } }

-- ---- the next edit

-- the next edit, and what is left behind it
pub record Next (list : List ℕ) (at begun : ℕ) (es : List Request) : Type 0 where
  pub within : Within list at
  pub rest : List Request
  pub first : es ≡ request_of list (edit_at list at) ∷ rest
  pub left : Left list (edit_at list at).to (begun + 1) rest

module _ (list : List ℕ) (at begun : ℕ) (es : List Request) (l : Left list at begun es) where
  pub left_none : length list ≤ at → es ≡ []
  left_none h = let e : edits [] ≡ edits es = sym (rw (drop_of_length-le list h, none_left (most_edits - begun))) ∙ l.splits in cc

  pub left_next : at < length list → Next list at begun es
  left_next h = go (most_edits - begun) refl l.splits
    where
      behind : (more : ℕ) → most_edits - begun ≡ suc more → whole (drop at list) ≡ true → (s : Split) → split_from more (drop (edit_at list at).to list) ≡ s
          → before (request_of list (edit_at list at)) s ≡ edits es → Next list at begun es
      behind more k w (fault n) f e = no_edits n es e
      behind more k w (edits r) f e =
          let m : most_edits - (begun + 1) ≡ more = omega arith in
          record {
            within = whole_within list at w;
            rest = r;
            first = cc;
            left = record { within = (whole_within list at w).piece; few = omega arith; splits = ap (λ x. split_from x (drop (edit_at list at).to list)) m ∙ f };
          }

      tested : (more : ℕ) → most_edits - begun ≡ suc more → split_from (suc more) (drop at list) ≡ edits es → (b : Bool) → whole (drop at list) ≡ b → Next list at begun es
      tested more k e true w =
          behind more k w (split_from more (drop (edit_at list at).to list)) refl (sym (split_whole list at w more) ∙ e)
      tested more k e false w = no_edits 4 es (sym (split_broken list at more h w) ∙ e)

      go : (more : ℕ) → most_edits - begun ≡ more → split_from more (drop at list) ≡ edits es → Next list at begun es
      go zero k e = no_edits 5 es (sym (rw (drop_next list at h)) ∙ e)
      go (suc more) k e = tested more k e (whole (drop at list)) refl

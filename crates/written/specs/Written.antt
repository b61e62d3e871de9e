-- What a done edit leaves in the buffer. Assumes nothing.
use Rattle.std.specs.Prelude.{◌≡◌, refl, List, ◌++◌, ℕ, suc, ◌+◌, ◌-◌, ◌≤◌, ◌<◌, max, length, take, drop, get_or, set, replicate}
use Rattle.std.proofs.Common.{sym, ap, ap₂, ◌∙◌, append_assoc, arith, length-set, length-drop, take-take, take-add, take_at, drop_at, drop-drop, length-take-le}
use Rattle.std.proofs.lemmas.List.{length-replicate}
use Rattle.std.proofs.Math.Seq.{paste, paste-zero, paste-suc, take-length, take-append_seam}
use Rattle.std.proofs.lemmas.List.Edits.{take-paste, drop-paste}
use Rattle.paper.specs.Edits.{splice, written}

abbrev pub zeros : ℕ → List ℕ
zeros n = replicate n 0

length_zeros : (n : ℕ) → length (zeros n) ≡ n
length_zeros n = length-replicate n 0

-- zeros from a place up to another
abbrev pub cleared : List ℕ → ℕ → ℕ → List ℕ
cleared b from to = paste b from (zeros (to - from)) (to - from)

-- ---- both

-- of the edited tokens, those before the splice are as they were
pub splice_front : (at n : ℕ) (p d : List ℕ) → at ≤ length d → take at (splice at n p d) ≡ take at d
splice_front at n p d h = take_at (take at d) (p ++ drop (at + n) d) at (length-take-le at d h)

-- and those of the piece stand there
pub splice_piece : (at n : ℕ) (p d : List ℕ) → at ≤ length d → drop at (take (at + length p) (splice at n p d)) ≡ p
splice_piece at n p d h =
    let s : List ℕ = splice at n p d in
    let l : length (take at s) ≡ at = ap length (splice_front at n p d h) ∙ length-take-le at d h in
    ap (drop at) (take-add at (length p) s)
    ∙ drop_at (take at s) (take (length p) (drop at s)) at l
    ∙ ap (take (length p)) (drop_at (take at d) (p ++ drop (at + n) d) at (length-take-le at d h))
    ∙ take-append_seam p (drop (at + n) d)

-- the copy from the splice place on, and then the zeros
pub put_written : (b s : List ℕ) (used at : ℕ) {b₁ b₂ : List ℕ} → take at s ≡ take at b → at ≤ length s → length s ≤ length b
    → b₁ ≡ paste b at (drop at s) (length s - at) → b₂ ≡ cleared b₁ (length s) used → b₂ ≡ written b used s
put_written b s used at {b₁} {b₂} ef ha lb e₁ e₂ =
    e₂ ∙ ap₂ ◌++◌ (ap₂ ◌++◌ (front ∙ take-length s) (zeros_all (used - length s))) (behind ∙ ap (λ j. drop j b) longer)
    ∙ append_assoc s (zeros (used - length s)) (drop (max used (length s)) b)
  where
    zeros_all : (m : ℕ) → take m (zeros m) ≡ zeros m
    zeros_all m = ap (λ j. take j (zeros m)) (sym (length_zeros m)) ∙ take-length (zeros m)

    longer : length s + (used - length s) ≡ max used (length s)
    longer = omega arith

    whole : at + (length s - at) ≡ length s
    whole = omega arith

    front_of : take (at + (length s - at)) b₁ ≡ take (at + (length s - at)) s
    front_of =
        ap (take (at + (length s - at))) e₁
        ∙ take-paste b at (drop at s) (length s - at) (omega arith) (omega (arith, length-drop at s))
        ∙ ap (λ l. l ++ take (length s - at) (drop at s)) (sym ef)
        ∙ sym (take-add at (length s - at) s)

    front : take (length s) b₁ ≡ take (length s) s
    front = rw whole at front_of

    rest_of : drop (at + (length s - at)) b₁ ≡ drop (at + (length s - at)) b
    rest_of = ap (drop (at + (length s - at))) e₁ ∙ drop-paste b at (drop at s) (length s - at) (omega arith) (omega (arith, length-drop at s))

    behind : drop (length s + (used - length s)) b₁ ≡ drop (length s + (used - length s)) b
    behind = sym (drop-drop (used - length s) (length s) b₁) ∙ ap (drop (used - length s)) (rw whole at rest_of) ∙ drop-drop (used - length s) (length s) b

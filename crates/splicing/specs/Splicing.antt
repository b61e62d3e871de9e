-- The edited tokens, written to another buffer by three copies. Assumes nothing.
use Rattle.std.specs.Prelude.{◌≡◌, List, [], ◌∷◌, ◌++◌, ℕ, zero, suc, ◌+◌, ◌-◌, ◌≤◌, length, take, drop}
use Rattle.std.proofs.Common.{sym, ap, ap₂, ◌∙◌, append_assoc, arith, zero-add, length-drop, take-append-drop, drop-drop}
use Rattle.std.proofs.Math.Nat.{sub-zero, zero-sub, suc-sub-suc}
use Rattle.std.proofs.Math.Seq.{take-nil, take-length, paste}
use Rattle.std.proofs.lemmas.List.Edits.{take-paste, drop-paste, length-paste}
use Rattle.paper.specs.Edits.{splice}

pub drop_take : (k u : ℕ) (l : List ℕ) → drop k (take u l) ≡ take (u - k) (drop k l)
drop_take zero u l = rw sub-zero
drop_take (suc k) zero l = rw zero-sub
drop_take (suc k) (suc u) [] = sym (take-nil (suc u - suc k))
drop_take (suc k) (suc u) (x ∷ l) = rw suc-sub-suc (drop_take k u l)

-- a copy leaves what stands behind it
behind : (d : List ℕ) (at : ℕ) (s : List ℕ) (n k : ℕ) → at + n ≤ length d → n ≤ length s → drop (at + n + k) (paste d at s n) ≡ drop (at + n + k) d
behind d at s n k hd hs = sym (drop-drop k (at + n) (paste d at s n)) ∙ ap (drop k) (drop-paste d at s n (omega arith) hs) ∙ drop-drop k (at + n) d

-- what stands before, the piece, and what stands behind
pub spliced : (doc : List ℕ) (at cut : ℕ) (piece n₀ : List ℕ) {n₁ n₂ n₃ : List ℕ}
    → at + cut ≤ length doc → length doc - cut + length piece ≤ length n₀
    → n₁ ≡ paste n₀ 0 (drop 0 doc) at → n₂ ≡ paste n₁ at (drop 0 piece) (length piece)
    → n₃ ≡ paste n₂ (at + length piece) (drop (at + cut) doc) (length doc - (at + cut))
    → n₃ ≡ splice at cut piece doc ++ drop (length doc - cut + length piece) n₀
spliced doc at cut piece n₀ {n₁} {n₂} {n₃} h room e₁ e₂ e₃ =
    let m : ℕ = length piece in
    let w : ℕ = length doc - (at + cut) in
    let ld : length (drop (at + cut) doc) ≡ w = length-drop (at + cut) doc in
    let l₁ : length n₁ ≡ length n₀ = ap length e₁ ∙ length-paste n₀ 0 doc at (omega arith) (omega arith) in
    let l₂ : length n₂ ≡ length n₁ = ap length e₂ ∙ length-paste n₁ at piece m (omega arith) (omega arith) in
    let t₁ : take at n₁ ≡ take at doc = ap₂ take (sym (zero-add at)) e₁ ∙ take-paste n₀ 0 doc at (omega arith) (omega arith) in
    let t₂ : take (at + m) n₂ ≡ take at n₁ ++ take m piece = ap (take (at + m)) e₂ ∙ take-paste n₁ at piece m (omega arith) (omega arith) in
    let t₃ : take (at + m + w) n₃ ≡ take (at + m) n₂ ++ take w (drop (at + cut) doc)
    = ap (take (at + m + w)) e₃ ∙ take-paste n₂ (at + m) (drop (at + cut) doc) w (omega arith) (omega arith) in
    let r₃ : drop (at + m + w) n₃ ≡ drop (at + m + w) n₂ = ap (drop (at + m + w)) e₃ ∙ drop-paste n₂ (at + m) (drop (at + cut) doc) w (omega arith) (omega arith) in
    let r₂ : drop (at + m + w) n₂ ≡ drop (at + m + w) n₁ = ap (drop (at + m + w)) e₂ ∙ behind n₁ at piece m w (omega arith) (omega arith) in
    let k : at + m + w ≡ 0 + at + (m + w) = omega arith in
    let r₁ : drop (at + m + w) n₁ ≡ drop (at + m + w) n₀ = rw k (ap (drop (0 + at + (m + w))) e₁ ∙ behind n₀ 0 doc at (m + w) (omega arith) (omega arith)) in
    let count : at + m + w ≡ length doc - cut + m = omega arith in
    let whole : take w (drop (at + cut) doc) ≡ drop (at + cut) doc = ap (λ j. take j (drop (at + cut) doc)) (sym ld) ∙ take-length (drop (at + cut) doc) in
    let front : take (at + m + w) n₃ ≡ splice at cut piece doc
    = t₃ ∙ ap₂ ◌++◌ (t₂ ∙ ap₂ ◌++◌ t₁ (take-length piece)) whole ∙ append_assoc (take at doc) piece (drop (at + cut) doc) in
    sym (take-append-drop (at + m + w) n₃) ∙ ap₂ ◌++◌ front (r₃ ∙ r₂ ∙ r₁ ∙ ap (λ j. drop j n₀) count)

-- Symbols that begin with an expression: which expression that is, and what is left after it, is settled. Assumes nothing.
use Rattle.std.specs.Prelude.{◌≡◌, refl, List, [], ◌∷◌, ◌++◌, ℕ, zero, suc, ◌+◌, ◌≤◌, ◌<◌}
use Rattle.std.proofs.Common.{sym, ap, ◌∙◌, append_assoc, arith}
use Rattle.std.proofs.Math.Option.{some}
use Rattle.std.proofs.lemmas.List.{append_cancel_right}
use Rattle.paper.specs.Expressions.{Expr, name, seq, alt, opt, star, plus, count}
use Rattle.paper.specs.Schema.{symbols_of, expr_of}
use Rattle.basic_laws.specs.Numbers.{five}
use Rattle.content_laws.specs.Symbols.{expr_of_iff}

-- ---- at least one name, at least one symbol

-- ---- where an expression ends

-- how many expressions are due after the symbol, where n are due after its expression
abbrev due : ℕ → ℕ → ℕ
due zero n = suc (suc n)
due (suc zero) n = suc (suc n)
due (suc (suc zero)) n = suc n
due (suc (suc (suc zero))) n = suc n
due (suc (suc (suc (suc zero)))) n = suc n
due (suc (suc (suc (suc (suc a))))) n = n

-- what is left after n expressions
abbrev past : List ℕ → ℕ → List ℕ
past [] n = []
past (s ∷ l) zero = s ∷ l
past (s ∷ l) (suc n) = past l (due s n)

past_none : (l : List ℕ) → past l 0 ≡ l
past_none [] = refl
past_none (s ∷ l) = refl

past_one : (e : Expr) (n : ℕ) (l : List ℕ) → past (symbols_of e ++ l) (suc n) ≡ past l n
past_one (name a) n l = rw five
past_one (seq e f) n l = rw append_assoc (past_one e (suc n) (symbols_of f ++ l) ∙ past_one f n l)
past_one (alt e f) n l = rw append_assoc (past_one e (suc n) (symbols_of f ++ l) ∙ past_one f n l)
past_one (opt e) n l = past_one e n l
past_one (star e) n l = past_one e n l
past_one (plus e) n l = past_one e n l

pub same_rest : (e f : Expr) (t u : List ℕ) → symbols_of e ++ t ≡ symbols_of f ++ u → t ≡ u
same_rest e f t u c = sym (past_none t) ∙ sym (past_one e 0 t) ∙ ap (λ l. past l 1) c ∙ past_one f 0 u ∙ past_none u

pub same_expr : (e f : Expr) (t u : List ℕ) → symbols_of e ++ t ≡ symbols_of f ++ u → e ≡ f
same_expr e f t u c =
    let d : symbols_of e ≡ symbols_of f = append_cancel_right (symbols_of e) (symbols_of f) u (ap (λ r. symbols_of e ++ r) (sym (same_rest e f t u c)) ∙ c) in
    let p : expr_of (symbols_of f) ≡ some e = (expr_of_iff (symbols_of f) e).1 d in
    let q : expr_of (symbols_of f) ≡ some f = (expr_of_iff (symbols_of f) f).1 refl in
    cc

-- ---- the parts of an expression, by its first symbol

-- an operator is followed by a part that has no more names than the whole
pub part_of : (e : Expr) (x : ℕ) (r t : List ℕ) → x ∷ r ≡ symbols_of e ++ t → x < 5 → (a : Expr) × (u : List ℕ) × (r ≡ symbols_of a ++ u) × (count a ≤ count e)
part_of (name a) x r t c l = let z : x ≡ 5 + a = cc in absurd (omega arith)
part_of (seq e f) x r t c l = (e, symbols_of f ++ t, cc (append_assoc (symbols_of e) (symbols_of f) t), omega arith)
part_of (alt e f) x r t c l = (e, symbols_of f ++ t, cc (append_assoc (symbols_of e) (symbols_of f) t), omega arith)
part_of (opt e) x r t c l = (e, t, cc, omega arith)
part_of (star e) x r t c l = (e, t, cc, omega arith)
part_of (plus e) x r t c l = (e, t, cc, omega arith)

-- a sequence and a choice have two
pub parts_of : (e : Expr) (x : ℕ) (r t : List ℕ) → x ∷ r ≡ symbols_of e ++ t → x < 2
    → (a : Expr) × (b : Expr) × (r ≡ symbols_of a ++ (symbols_of b ++ t)) × (count e ≡ count a + count b)
parts_of (name a) x r t c l = let z : x ≡ 5 + a = cc in absurd (omega arith)
parts_of (seq e f) x r t c l = (e, f, cc (append_assoc (symbols_of e) (symbols_of f) t), refl)
parts_of (alt e f) x r t c l = (e, f, cc (append_assoc (symbols_of e) (symbols_of f) t), refl)
parts_of (opt e) x r t c l = let z : x ≡ 2 = cc in absurd (omega arith)
parts_of (star e) x r t c l = let z : x ≡ 3 = cc in absurd (omega arith)
parts_of (plus e) x r t c l = let z : x ≡ 4 = cc in absurd (omega arith)

-- What the judgement of an edited document gives, by what is kept of IDs and references. Assumes nothing.
use Rattle.std.specs.Prelude.{◌≡◌, refl, Result, Ok, Err, Bool, true, false, cond, List, [], ◌∷◌, map, ℕ, zero, suc, ◌/◌, get_or}
use Rattle.std.proofs.Common.{sym, ap, ◌∙◌, arith, eqb-true}
use Rattle.std.proofs.lemmas.Bool.{eqb-false}
use Rattle.paper.specs.Basics.{elem}
use Rattle.paper.specs.declared.Tok.{Tok}
use Rattle.paper.specs.Tokens.{toks, touched}
use Rattle.paper.specs.Rules.{Rules, of_table}
use Rattle.paper.specs.Judgement.{Answer, or_else, repeated, dangling, ids_of, refs_of, value_in, key_fault, judge}
use Rattle.paper.specs.declared.Fault.{Fault}
use Rattle.paper.specs.Codes.{number_of}
use Rattle.touched.specs.Judged.{Elements, Found, found_keys}
use Rattle.kept_keys.specs.Follow.{Keeps, Change, Followed}
use Rattle.kept_judged.specs.Edit.{Edit, names_at}

-- "Then the edited document is judged as above"; where it has no fault, what is kept is that of the edited document
abbrev pub FoundKept : (table new : List ℕ) (at coming : ℕ) (field counts : List ℕ) → Result ℕ Fault → Type 0
FoundKept table new at coming field counts (Ok children) = Found table new at coming (Ok children) × Keeps table field counts (toks new)
FoundKept table new at coming field counts (Err f) = Found table new at coming (Err f)

-- ---- IDs and references without a fault have place 0

dangling_none : (ids : List ℕ) (l : List (ℕ × ℕ)) → (dangling ids l).0 ≡ 0 → (0, 0) ≡ dangling ids l
dangling_none ids [] e = refl
dangling_none ids (p ∷ l) e = go (elem p.1 ids) (dangling_none ids l) e
  where
    go : (b : Bool) → ((dangling ids l).0 ≡ 0 → (0, 0) ≡ dangling ids l) → (cond b (dangling ids l) (12, p.0)).0 ≡ 0 → (0, 0) ≡ cond b (dangling ids l) (12, p.0)
    go true h e = h e
    go false h e = absurd (omega (arith, e))

keys_none : (R : Rules) (d : List Tok) → (key_fault R d).0 ≡ 0 → (0, 0) ≡ key_fault R d
keys_none R d e = go (repeated [] (ids_of R d)).0 e
  where
    go : (n : ℕ) → (or_else n (repeated [] (ids_of R d)).1 (dangling (map value_in (ids_of R d)) (refs_of R d))).0 ≡ 0
        → (0, 0) ≡ or_else n (repeated [] (ids_of R d)).1 (dangling (map value_in (ids_of R d)) (refs_of R d))
    go zero e = dangling_none (map value_in (ids_of R d)) (refs_of R d) e
    go (suc n) e = absurd (omega (arith, e))

-- ---- the ways out

module _ (table new : List ℕ) (at coming : ℕ) {children : ℕ} (s : Elements table new at coming (Ok children)) where
  abbrev keys : Answer
  keys = key_fault (of_table table) (toks new)

  module _ {field counts : List ℕ} {y : Bool} (k : Followed table new field counts y) where
    pub kept_done : y ≡ true → FoundKept table new at coming field counts (Ok children)
    kept_done e = (
      (found_keys table new at coming s.0 (keys_none (of_table table) (toks new) (eqb-true keys.0 0 (sym k.told ∙ e))), s.1),
      k.keeps,
    )

    -- the whole pass finds a fault
    pub kept_never : y ≡ false → (0, 0) ≡ keys → FoundKept table new at coming field counts (Ok children)
    kept_never e z = absurd (eqb-false keys.0 0 (sym k.told ∙ e) (sym (ap (λ (a : Answer). a.0) z)))

  pub kept_fault : (f : Fault) → (number_of f.refusal, f.place) ≡ keys → (number_of f.refusal, f.place) ≡ judge (of_table table) (touched at coming (toks new)) (toks new)
  kept_fault f e = found_keys table new at coming s.0 e

-- ---- the change at the name

pub follow_change : (table doc : List ℕ) (place : ℕ) (new : List ℕ) (at coming : ℕ) → Edit table doc place new at coming → {t e : ℕ} → t ≡ get_or doc place 0 → e ≡ t / 8
    → Change (of_table table) doc new at coming e
follow_change table doc place new at coming x et ee = x.change _ (names_at doc place et ee)

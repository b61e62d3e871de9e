-- How the reader of a DTD text comes to a place, turn by turn, and what is declared before it. Assumes nothing.
use Rattle.std.specs.Prelude.{◌≡◌, refl, Bool, true, cond, ◌&&◌, List, [], ◌++◌, ℕ, zero, suc, ◌-◌, ◌≤◌, ◌<◌, leb, length, drop}
use Rattle.std.proofs.Common.{sym, ◌∙◌, inl, inr, append_assoc, append-nil, arith, le-leb, length-drop}
use Rattle.std.proofs.Math.Bool.{and-eq-true_iff}
use Rattle.std.proofs.lemmas.Bool.{lt-leb}
use Rattle.paper.specs.Dtd.Letters.{Name}
use Rattle.paper.specs.Dtd.Declarations.{each, Content, empty, text as pcdata, model, Declaration, element, attlist}
use Rattle.paper.specs.Dtd.Numbering.{model_fits}
use Rattle.paper.specs.Dtd.Limits.{content_kept, model_kept, definitions_kept, declaration_kept}
use Rattle.paper.specs.Dtd.Readers.{Read, stop, ok}
use Rattle.paper.specs.Dtd.Reading.{new_element, room_for_element, turn}
use Rattle.dtd_laws.specs.Unique.{any, each_any}
use Rattle.dtd_laws.specs.Texts.{Piece, turn_exact, piece_strict}

-- from s, with `old` declared, to s' with `old'` declared
pub data Path (known : Name → Bool) : List Declaration → List ℕ → List Declaration → List ℕ → Type 0 where
  here : {old : List Declaration} {s : List ℕ} → Path known old s old s
  step : {old new old' : List Declaration} {s r s' : List ℕ} → turn known old s ≡ ok new r → Path known (old ++ new) r old' s' → Path known old s old' s'

module _ (known : Name → Bool) where
  pub one_turn_more : {old old' : List Declaration} {s s' : List ℕ} (new : List Declaration) (r : List ℕ) → Path known old s old' s' → turn known old' s' ≡ ok new r → Path known old s (old' ++ new) r
  one_turn_more new r here e = step e here
  one_turn_more new r (step q p) e = step q (one_turn_more new r p e)

  pub turn_less : (old new : List Declaration) (s r : List ℕ) → turn known old s ≡ ok new r → length r < length s
  turn_less old new s r e = piece_strict known old new s r ((turn_exact known old {n = 0}).gives e)

  pub path_less : {old old' : List Declaration} {s s' : List ℕ} → Path known old s old' s' → length s' ≤ length s
  path_less here = omega arith
  path_less {old} {old'} {s} (step {new = new} {r = r} q p) = let h = turn_less old new s r q in let l = path_less p in omega arith

  -- what is declared stays declared
  pub path_more : {old old' : List Declaration} {s s' : List ℕ} → Path known old s old' s' → (more : List Declaration) × (old ++ more ≡ old')
  path_more {old} here = ([], append-nil old)
  path_more {old} (step {new = new} q p) = let (more, e) = path_more p in (new ++ more, sym (append_assoc old new more) ∙ e)

  -- ---- with no name asked for

  kept_any : (old : List Declaration) (d : Declaration) → declaration_kept known old d ≡ true → declaration_kept any old d ≡ true
  kept_any old (attlist e ds) k = ((and-eq-true_iff (known e) (definitions_kept old e [] ds)).0 k).1
  kept_any old (element n c) k =
      let (a, b) = (and-eq-true_iff (new_element old n && room_for_element old) (content_kept (model_kept known) c)).0 k in
      rw a (content c b)
    where
      content : (c : Content) → content_kept (model_kept known) c ≡ true → content_kept (model_kept any) c ≡ true
      content empty b = refl
      content pcdata b = refl
      content (model p) b = rw (each_any p) ((and-eq-true_iff (each p known) (model_fits p)).0 b).1

  turn_any : (old new : List Declaration) (s r : List ℕ) → turn known old s ≡ ok new r → turn any old s ≡ ok new r
  turn_any old new s r e = (turn_exact any old {n = length s}).takes (omega arith) (by ((turn_exact known old {n = 0}).gives e))
    where
      by : Piece known old new s r → Piece any old new s r
      by (inl p) = inl p
      by (inr (inl p)) = inr (inl p)
      by (inr (inr (d, i, a, k))) = inr (inr (d, i, a, kept_any old d k))

  path_any : {old old' : List Declaration} {s s' : List ℕ} → Path known old s old' s' → Path any old s old' s'
  path_any here = here
  path_any {old} {old'} {s} {s'} (step {new = new} {r = r} q p) = step (turn_any old new s r q) (path_any p)

-- ---- what is declared before a place

-- turn by turn, until no more than `left` bytes are left
abbrev after : List Declaration → Read (List Declaration) → (List Declaration → List ℕ → List Declaration) → List Declaration
after old (stop k r) f = old
after old (ok new r) f = f (old ++ new) r

abbrev up_to : (bound left : ℕ) → List Declaration → List ℕ → List Declaration
up_to zero left old s = old
up_to (suc n) left old s = cond (leb (length s) left) old (after old (turn any old s) (up_to n left))

unfoldable pub declared_to : List ℕ → ℕ → List Declaration
declared_to text upto = up_to (suc (length text)) (length text - upto) [] text

up_to_lem : (n left : ℕ) {old old' : List Declaration} {s s' : List ℕ} → Path any old s old' s' → length s' ≡ left → length s < n → up_to n left old s ≡ old'
up_to_lem zero left p e h = absurd (omega arith)
up_to_lem (suc n) left {old} {old'} {s} {s'} here e h = rw (le-leb (length s) left (omega arith))
up_to_lem (suc n) left {old} {old'} {s} {s'} (step {new = new} {r = r} q p) e h =
    let i = turn_less any old new s r q in
    let l = path_less any p in
    rw (lt-leb (length s) left (omega arith), q) (up_to_lem n left p e (omega arith))

-- the reader comes to a place, with `declaredTo` declared
pub record Reached (text : List ℕ) (upto : ℕ) : Type 0 where
  pub inside : upto ≤ length text
  pub path : Path any [] text (declared_to text upto) (drop upto text)

module _ (known : Name → Bool) (text : List ℕ) (upto : ℕ) (old : List Declaration) where
  pub declared_to_lem : upto ≤ length text → Path known [] text old (drop upto text) → declared_to text upto ≡ old
  unfolding declared_to
  declared_to_lem h p = up_to_lem (suc (length text)) (length text - upto) (path_any known p) (length-drop upto text) (omega arith)

  pub reached : upto ≤ length text → Path known [] text old (drop upto text) → Reached text upto
  reached h p = record { inside = h; path = rw (declared_to_lem h p) (path_any known p) }

-- An edit in form, of a document without a fault of 11 or 12, is a change as what is kept asks for it. Assumes nothing.
use Rattle.std.specs.Prelude.{◌≡◌, refl, Bool, true, List, take, drop, get_or}
use Rattle.std.proofs.Math.Path.{sym, ap, subst}
use Rattle.std.proofs.Common.{◌∙◌, arith}
use Prim.Native.Nat.{ℕ, ◌+◌, ◌-◌, ◌/◌, ◌≤◌}
use Rattle.std.proofs.Math.ListN.{length}
use Rattle.std.proofs.lemmas.List.{length-map}
use Rattle.std.proofs.Math.Seq.{take-take, length-take-le}
use Rattle.paper.specs.Basics.{most_tokens}
use Rattle.paper.specs.declared.Tok.{Tok}
use Rattle.paper.specs.declared.Tok.TheVariants.{Start, End, Text, Attr, Value, Bad}
use Rattle.paper.specs.Tokens.{toks, tok_of, starts}
use Rattle.paper.specs.Shape.{shape_of}
use Rattle.paper.specs.Rules.{of_table}
use Rattle.paper.specs.Judgement.{is_id, is_ref, key_fault}
use Rattle.paper.specs.Edits.{Request, splice_at, splice_cut, coming, splice, edited}
use Rattle.tokens.specs.Theorems.{start_iff}
use Rattle.places.specs.Items.{head_tok, head_is}
use Rattle.shape_laws.specs.Bridge.{length_toks}
use Rattle.shape_laws.specs.Five.{Allowed, allowed_within}
use Rattle.shape_laws.specs.Shaped.{shaped}
use Rattle.shape_laws.specs.Widths.{Comes}
use Rattle.shape_laws.specs.EditJudged.{Asked, form_iff, allowed_by, coming_toks, edited_toks}
use Rattle.form.specs.declared.Form.{Form}
use Rattle.form.specs.Form.{InForm}
use Rattle.form.specs.Size.{size_is}
use Rattle.edits.proofs.Outcomes.{ready_few, ready_long, ready_within, ready_comes}
use Rattle.kept_laws.specs.Read.{Names, Reads, read_by}
use Rattle.kept_keys.specs.Follow.{cut_of, Change}

-- by the name of the element at its place, the edit is a change
pub record Edit (table doc : List ℕ) (place : ℕ) (new : List ℕ) (at coming : ℕ) : Type 0 where
  pub change : (e : ℕ) → Names e place (toks doc) → Change (of_table table) doc new at coming e
  pub comes : Comes (drop at (toks (take (at + coming) new)))
  pub few : length new ≤ most_tokens
  pub within : at + coming ≤ length new

-- ---- the name at a place

pub names_at : (d : List ℕ) (place : ℕ) {t e : ℕ} → t ≡ get_or d place 0 → e ≡ t / 8 → Names e place (toks d)
names_at d place {t} {e} et ee n r h =
    let is : tok_of t ≡ Start n = ap tok_of et ∙ head_is d place ∙ ap head_tok h in
    ee ∙ ap name_of (sym ((start_iff t).0 (ap starts is)) ∙ is)
  where
    name_of : Tok → ℕ
    name_of (Start n) = n
    name_of End = 0
    name_of (Text n) = 0
    name_of (Attr n) = 0
    name_of (Value n) = 0
    name_of Bad = 0

-- ---- the edit

module _ (op place : ℕ) (piece buf : List ℕ) (used : ℕ) (table : List ℕ) (sh : shape_of buf used ≡ true) (k : (key_fault (of_table table) (toks (take used buf))).0 ≡ 0) where
  abbrev q : Request
  q = record { operation = op; place = place; piece = piece }

  abbrev d : List Tok
  d = toks (take used buf)

  pub edit_in_form : {r : Form} {after : List ℕ} → InForm (length buf) q (take used buf) after r → Edit table (take used buf) place (take r.used after) r.at r.coming
  unfolding edited
  edit_in_form {r} {after} f =
      let s = shaped buf used sh in
      let a : Asked (length buf) q (take used buf) = (form_iff (length buf) q (take used buf)).0 f.none in
      let at : ℕ = splice_at op place (toks piece) d in
      let cut : ℕ = splice_cut op place (toks piece) d in
      let ok : Allowed d at cut (coming op (toks piece)) = allowed_by d (toks piece) s.one op place a.operation a.piece a.place in
      let inner : at + cut ≤ length d = allowed_within d s.one ok in
      let u : length d ≡ used = length_toks buf used s.long in
      let w : length (take used buf) ≡ used = length-take-le used buf s.long in
      let size : length (edited q (take used buf)) ≡ used - cut + length (coming op piece)
      = size_is (take used buf) at cut (coming op piece) (omega (arith, inner, u, w)) ∙ ap (λ k. k - cut + length (coming op piece)) w in
      let long : r.used ≤ length after = ready_long op place piece buf used sh f in
      let old : length (take used buf) ≡ used = length-take-le used buf s.long in
      let new : length (take r.used after) ≡ r.used = length-take-le r.used after long in
      let same : cut_of (take used buf) (take r.used after) r.coming ≡ cut = omega (arith, old, new, size, f.size, f.come, inner, u) in
      let few : r.used ≤ most_tokens = ready_few op place piece buf used sh f in
      let reads : (is : ℕ → ℕ → Bool) (e : ℕ) → Names e place d → Reads is d e at cut (coming op (toks piece))
      = λ is e names. read_by is d (toks piece) s.one e op place a.operation a.piece a.place names in
      let moved : (P : ℕ → ℕ → Type 0) → P at cut → P r.at (cut_of (take used buf) (take r.used after) r.coming)
      = λ P x. subst (λ i. P i (cut_of (take used buf) (take r.used after) r.coming)) (sym f.place) (subst (P at) (sym same) x) in
      record {
        change = λ e names. record {
          piece = coming op (toks piece);
          one = s.one;
          sound = k;
          allowed = moved (λ i n. Allowed d i n (coming op (toks piece))) ok;
          after = ap toks (f.tokens) ∙ edited_toks q (take used buf)
              ∙ moved (λ i n. splice at cut (coming op (toks piece)) d ≡ splice i n (coming op (toks piece)) d) refl;
          comes_so = sym (f.come ∙ sym (length-map (coming op piece) tok_of) ∙ ap length (coming_toks q (take used buf)));
          old = omega (arith, old, s.few);
          few = omega (arith, new, few);
          ids = moved (λ i n. Reads (is_id (of_table table)) d e i n (coming op (toks piece))) (reads (is_id (of_table table)) e names);
          refs = moved (λ i n. Reads (is_ref (of_table table)) d e i n (coming op (toks piece))) (reads (is_ref (of_table table)) e names);
        };
        comes = subst (λ l. Comes (drop r.at (toks l))) (sym (take-take (r.at + r.coming) r.used after (ready_within op place piece buf used sh f)))
            (ready_comes op place piece buf used sh f);
        few = omega (arith, new, few);
        within = omega (arith, new, ready_within op place piece buf used sh f);
      }

-- Turns of the walk along a model where a part is due: a bracket that opens, and a name. Assumes nothing.
use Rattle.std.specs.Prelude.{◌≡◌, refl, Bool, true, false, Ok, Err, List, ◌∷◌, ℕ, suc, ◌+◌, eqb, drop}
use Rattle.std.proofs.Common.{sym, ◌∙◌, arith, add-one}
use Rattle.paper.specs.Dtd.Letters.{Name, is_white, begins, past, opening}
use Rattle.paper.specs.Dtd.Readers.{Read, stop, ok, onward, suffix}
use Rattle.paper.specs.Dtd.Reading.{mention}
use Rattle.dtd_words.specs.declared.Fault.{Fault}
use Rattle.dtd_words.specs.Places.{At}
use Rattle.dtd_words.specs.Words.{Came}
use Rattle.dtd_model_laws.specs.Turns.{groups}
use Rattle.dtd_model_laws.specs.Sizes.{marks}
use Rattle.dtd_model_laws.specs.Walks.{free, after, counted, opens, names_word}
use Rattle.dtd_brackets.specs.Stacks.{open_at, open_next, white_open}
use Rattle.dtd_brackets.specs.Windows.{Pushed}
use Rattle.dtd_models.specs.Bytes.{front_is, Suffixed, mentioned}
use Rattle.dtd_models.specs.Held.{Model, Stands, DueAt, Onward}
use Rattle.dtd_models.specs.Turns.{refused_so}
use Rattle.dtd_models.specs.declared.Place.{Place}
use Rattle.dtd_models.specs.declared.Walk.TheVariants.{Due, Behind}

module _ (known : Name → Bool) (text : List ℕ) (from : ℕ) (p : Place) (d : DueAt known text from p) where
  abbrev s : Stands text from p
  s = d.stands

  -- c: whether a bracket opens there
  module _ (c : Bool) (q : c ≡ begins (eqb opening) (drop p.at text)) where
    -- a bracket opens
    pub bracket : (e w : ℕ) → c ≡ true → Pushed p.window w → At text e (past is_white (drop (p.at + 1) text))
        → Onward known text from p.at (Ok (Due (record { at = e; depth = p.depth + 1; window = w; symbols = p.symbols; names = p.names })))
    bracket e w z u a =
        let (i, f, h) = front_is text p.at opening (sym q ∙ z) in
        let x : open_at text from (suc p.at) ≡ free ∷ open_at text from p.at = open_next text from p.at s.ahead i ∙ rw (← h) in
        let r : drop e text ≡ past is_white (drop (suc p.at) text) = rw (← add-one p.at) a.rest in
        let (j, v) = white_open text from (suc p.at) e (let y = s.ahead in omega arith) (omega arith) a.inside r in
        let o : open_at text from e ≡ free ∷ open_at text from p.at = v ∙ x in
        record {
          holds = record {
            stands = record {
              inside = a.inside;
              ahead = let y = s.ahead in omega arith;
              deep = rw o (let y = s.deep in omega arith);
              some = omega arith;
              near = rw o (u (open_at text from p.at) s.near);
              few_symbols = let y = s.few_symbols in omega arith;
              few_names = let y = s.few_names in omega arith;
              low = let y = s.low in omega arith;
            };
            same = d.same ∙ rw (f, o, r) (opens known (open_at text from p.at) p.symbols p.names (drop (suc p.at) text));
          };
          less = let y = a.inside in omega arith;
        }

    module _ (z : c ≡ false) where
      word : counted known (drop from text)
          ≡ onward (mention known (drop p.at text)) (λ n t. onward (suffix t) (λ q. after known (open_at text from p.at) (p.symbols + 1 + marks q) (p.names + 1)))
      word =
          d.same
          ∙ names_word known (open_at text from p.at) p.symbols p.names (drop p.at text) (sym q ∙ z)

      -- no name, or an unknown one
      pub no_word : (f : Fault) → Came text (Err f) (mention known (drop p.at text)) → Onward known text from p.at (Err f)
      no_word f m = record { holds = by (mention known (drop p.at text)) m word; less = omega arith }
        where
          by : (o : Read Name) → Came text (Err f) o
              → counted known (drop from text)
              ≡ onward o (λ n t. onward (suffix t) (λ q. after known (open_at text from p.at) (p.symbols + 1 + marks q) (p.names + 1)))
              → Model text (Err f) (groups known (drop from text))
          by (ok w t) x e = absurd x
          by (stop k t) x e = refused_so known text (drop from text) f k t e x

      -- a name and its suffix
      pub a_word : (n x : ℕ) → Came text (Ok n) (mention known (drop p.at text)) → Suffixed text n x
          → Onward known text from p.at (Ok (Behind (record { at = n + x; depth = p.depth; window = p.window; symbols = p.symbols + 1 + x; names = p.names + 1 })))
      a_word n x m u = by (mention known (drop p.at text)) refl m word
        where
          by : (o : Read Name) → mention known (drop p.at text) ≡ o → Came text (Ok n) o
              → counted known (drop from text)
              ≡ onward o (λ n t. onward (suffix t) (λ q. after known (open_at text from p.at) (p.symbols + 1 + marks q) (p.names + 1)))
              → Onward known text from p.at (Ok (Behind (record { at = n + x; depth = p.depth; window = p.window; symbols = p.symbols + 1 + x; names = p.names + 1 })))
          by (stop k t) e a f = absurd a
          by (ok w t) e a f =
              let (i, v) = mentioned known text from p.at n w s.ahead s.inside a.inside (rw a.rest e) in
              let o : open_at text from (n + x) ≡ open_at text from p.at = u.still from (let b = s.ahead in omega arith) ∙ v in
              record {
                holds = record {
                  stands = record {
                    inside = u.inside;
                    ahead = let b = s.ahead in omega arith;
                    deep = rw o s.deep;
                    some = s.some;
                    near = rw o s.near;
                    few_symbols = let b = s.few_symbols in omega arith;
                    few_names = let b = s.few_names in omega arith;
                    low = let b = s.low in omega arith;
                  };
                  same = f ∙ rw (← a.rest, u.read, o, u.many);
                };
                less = let b = u.inside in omega arith;
              }

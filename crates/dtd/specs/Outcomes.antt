-- What the calls leave: the answer and every byte of the buffer. Assumes nothing.
use Rattle.std.specs.Prelude.{◌≡◌, refl, Bool, true, false, cond, Ok, Err, List, [], ◌++◌, ℕ, ◌+◌, ◌-◌, ◌≤◌, ◌<◌, min, leb, ltb, take, drop}
use Rattle.std.proofs.Common.{sym, ◌∙◌, subst, leb-true, leb-false, ltb-true, ltb-false}
use Rattle.std.proofs.Math.Path.{ap}
use native.Mathlib.Omega.{arith}
use Rattle.std.proofs.Math.ListN.{length, length-drop}
use Rattle.paper.specs.Files.{counted}
use Rattle.paper.specs.Codes.{number_of}
use Rattle.paper.specs.Dtd.Declarations.{Declaration, element_names}
use Rattle.paper.specs.Dtd.Letters.{among}
use Rattle.paper.specs.Dtd.Readers.{Read, stop, ok, outside}
use Rattle.paper.specs.Dtd.Reading.{reading}
use Rattle.paper.specs.Dtd.Imported.{completed, declared, worded, import, names, spot}
use Rattle.paper.specs.Dtd.Imported as Imported
use Rattle.paper.specs.Basics.{null}
use Rattle.lines.specs.Put.{Put}
use Rattle.dtd_list.specs.Lengths.{up_to}
use Rattle.docfile.specs.declared.Count.{Count}
use Rattle.docfile.specs.Outcome.{outcome, answer}
use Rattle.dtd_laws.specs.Texts.{reading_exactly}
use Rattle.dtd_laws.specs.Unique.{any}
use Rattle.paper.specs.Dtd.Numbering.{listed}
use Rattle.dtd_words.specs.declared.Fault.{Fault}
use Rattle.dtd_words.specs.Places.{At}
use Rattle.dtd_names.specs.Named.{names_at}
use Rattle.dtd_texts.specs.declared.Reading.{Reading}
use Rattle.dtd_texts.specs.Turns.{Lists, Holding, Told}
use Rattle.dtd.specs.declared.Spot.{Spot}
use Rattle.dtd_schema.specs.Filing.{Held, Holds}
use Rattle.dtd_schema.specs.Roomed.{Roomed, no_room, too_many, put_there}
use Rattle.dtd_schema.specs.Schema.{SchemaPut}

-- ---- of a text

module _ (f : List Declaration → List ℕ) (buffer : List ℕ) where
  pub refused_text : (k : ℕ) (s : List ℕ) (o : Read (List Declaration)) → o ≡ stop k s → outcome (answer k 0) buffer ≡ counted (worded f o buffer) buffer
  refused_text k s o e = rw e

-- ---- what the reading of a text came to

-- nothing is left over of a text that is taken
nothing_left : (text : List ℕ) (ds : List Declaration) (s : List ℕ) → declared text ≡ ok ds s → [] ≡ s
unfolding declared
nothing_left text ds s e = first (reading any text) e
  where
    second : (es : List Declaration) (t : List ℕ) (b : Bool) → cond b (stop outside t) (reading (λ n. among n (element_names es)) text) ≡ ok ds s → [] ≡ s
    second es t true e = let z : ◌≡◌ {A = ℕ} 0 1 = cc in absurd (omega arith)
    second es t false e = let (a, b, c) = (reading_exactly (λ n. among n (element_names es)) text ds s).0 e in b

    first : (o : Read (List Declaration)) → completed text o ≡ ok ds s → [] ≡ s
    first (stop k t) e = let z : ◌≡◌ {A = ℕ} 0 1 = cc in absurd (omega arith)
    first (ok es t) e = second es t (null (element_names es)) e

module _ (text es cs qs ns hs ts : List ℕ) where
  pub stopped : (f : Fault) → Told any text (Err f) es cs qs ns hs ts (declared text) → (s : List ℕ) × (declared text ≡ stop (number_of f.refusal) s) × At text f.at s
  stopped f x = by (declared text) refl x
    where
      by : (o : Read (List Declaration)) → declared text ≡ o → Told any text (Err f) es cs qs ns hs ts o → (s : List ℕ) × (declared text ≡ stop (number_of f.refusal) s) × At text f.at s
      by (stop k s) e (z, y) = (s, e ∙ rw z, y)
      by (ok ds s) e y = absurd y

  pub taken : (d : Reading) → Told any text (Ok d) es cs qs ns hs ts (declared text) → Lists es cs qs ns hs ts
      → (ds : List Declaration) × (s : List ℕ) × (declared text ≡ ok ds s) × Held text es cs qs ns hs ts d.elements d.attributes d.many ds
  taken d x l = by (declared text) refl x
    where
      at_end : (ds : List Declaration) (s : List ℕ) → declared text ≡ ok ds s → At text d.at s → d.at ≡ length text
      at_end ds s e y =
          let r = nothing_left text ds s e in
          let k : length (drop d.at text) ≡ 0 = rw (y.rest, ← r) in
          let i = y.inside in
          omega (arith, length-drop d.at text)

      by : (o : Read (List Declaration)) → declared text ≡ o → Told any text (Ok d) es cs qs ns hs ts o
          → (ds : List Declaration) × (s : List ℕ) × (declared text ≡ ok ds s) × Held text es cs qs ns hs ts d.elements d.attributes d.many ds
      by (stop k s) e y = absurd y
      by (ok ds s) e (y, w) = (ds, s, e, record { long = l; holding = subst (λ p. Holding any text ds p es cs qs ns hs ts d.elements d.attributes d.many) (at_end ds s e y) w })

-- ---- the calls

abbrev pub spotted : Spot → Imported.Spot
spotted r = record { number = r.number; offset = r.offset }

module _ (text es cs qs ns hs ts : List ℕ) where
  module _ (f : Fault) (x : Told any text (Err f) es cs qs ns hs ts (declared text)) where
    pub not_imported : (buffer : List ℕ) (r : Count) → r ≡ answer (number_of f.refusal) 0 → outcome r buffer ≡ import text buffer
    unfolding import
    not_imported buffer r e = let (s, g, a) = stopped text es cs qs ns hs ts f x in rw (e, g)

    pub not_named : (buffer : List ℕ) (r : Count) → r ≡ answer (number_of f.refusal) 0 → outcome r buffer ≡ names text buffer
    unfolding names
    not_named buffer r e = let (s, g, a) = stopped text es cs qs ns hs ts f x in rw (e, g)

    pub not_taken : spotted (record { number = number_of f.refusal; offset = f.at }) ≡ spot text
    unfolding spot
    not_taken =
        let (s, g, a) = stopped text es cs qs ns hs ts f x in
        let i = a.inside in
        let l : length s ≡ length text - f.at = ap length (sym a.rest) ∙ length-drop f.at text in
        let o : length text - length s ≡ f.at = omega arith in
        rw (g, o)

  module _ (d : Reading) (x : Told any text (Ok d) es cs qs ns hs ts (declared text)) (l : Lists es cs qs ns hs ts) where
    pub held : Holds text es cs qs ns hs ts d.elements d.attributes d.many
    held = let (ds, s, e, h) = taken text es cs qs ns hs ts d x l in record { ds = ds; held = h }

    pub some_names : (d.elements ≤ length es) × (d.attributes ≤ length ns)
    some_names =
        let (ds, s, e, h) = taken text es cs qs ns hs ts d x l in
        let f = h.holding.few in
        let g = h.holding.few_attributes in
        (omega (arith, l.elements_long), omega (arith, l.attributes_long))

    pub imported : (buffer after : List ℕ) (r : Count) → SchemaPut text es cs qs ns hs ts d.elements d.attributes d.many buffer r after → outcome r after ≡ import text buffer
    unfolding import
    imported buffer after r p = let (ds, s, e, h) = taken text es cs qs ns hs ts d x l in rw e (p ds h)

    pub named : (buffer after : List ℕ) (r : Count)
        → Roomed (listed (names_at text (take d.elements es) ++ names_at text (take d.attributes ns))) buffer r after → outcome r after ≡ names text buffer
    unfolding names
    named buffer after r p = let (ds, s, e, h) = taken text es cs qs ns hs ts d x l in rw e (rw (h.holding.names, h.holding.listed) at p)

    pub told : spotted (record { number = 0; offset = 0 }) ≡ spot text
    unfolding spot
    told = let (ds, s, e, h) = taken text es cs qs ns hs ts d x l in rw e

-- ---- the list of names, up to the room there is

module _ (l buffer : List ℕ) (room n : ℕ) (m : room ≡ min (length buffer) 4294967295) (u : n ≡ up_to room (length l)) where
  -- n tells the length where it is at most the room
  over : room < n → room < length l
  over h = by (leb (length l) room) refl u
    where
      by : (b : Bool) → leb (length l) room ≡ b → n ≡ cond b (length l) (room + 1) → room < length l
      by true p e = omega arith
      by false p e = let k = leb-false (length l) room p in omega arith

  within : n ≤ room → length l ≤ room
  within h = by (leb (length l) room) refl u
    where
      by : (b : Bool) → leb (length l) room ≡ b → n ≡ cond b (length l) (room + 1) → length l ≤ room
      by true p e = leb-true (length l) room p
      by false p e = absurd (omega arith)

  pub words_no_room : (r : Count) → room < n → r ≡ answer 5 0 → Roomed l buffer r buffer
  words_no_room r h e = rw e (by (ltb (length buffer) 4294967295) refl)
    where
      k : room < length l
      k = over h

      by : (b : Bool) → ltb (length buffer) 4294967295 ≡ b → Roomed l buffer (answer 5 0) buffer
      by true p = let q = ltb-true (length buffer) 4294967295 p in no_room l buffer (omega (arith, m, k))
      by false p = let q = ltb-false (length buffer) 4294967295 p in too_many l buffer (omega (arith, m, k))

  pub words_fit : n ≤ room → length l ≤ length buffer
  words_fit h = omega (arith, m, within h)

  words_few : n ≤ room → length l < 4294967296
  words_few h = omega (arith, m, within h)

  module _ (after : List ℕ) (put : ℕ) (p : Put buffer 0 l put after) where
    pub put_few : n ≤ room → put < 4294967296
    put_few h = omega (arith, p.place, words_few h)

    pub words_put : n ≤ room → Roomed l buffer (answer 0 put) after
    words_put h = put_there l buffer after put p (words_few h)

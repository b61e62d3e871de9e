-- The reader of a DTD text: one pass from the front, the first fault met decides. `known` is asked of every element that is named and
-- not declared there: what is declared is known only at the end, and then the text is read again. Assumes nothing.
use Rattle.std.specs.Prelude.{Bool, true, false, cond, not, ◌&&◌, ◌||◌, List, [], ◌∷◌, ◌++◌, map, ℕ, zero, suc, ltb, eqb, length}
use Rattle.paper.specs.Basics.{most_elements, most_attributes, some_of, null}
use Rattle.paper.specs.Dtd.Letters.{is_white, Name, among, begins, past, opening, closing, comma, bar, hash, greater}
use Rattle.paper.specs.Dtd.Letters.{word_element, word_attlist, word_empty, word_text}
use Rattle.paper.specs.Dtd.Declarations.{Suffix, Part, word, sequence, choice, Parts, only, ◌and◌, Content, empty, text, model}
use Rattle.paper.specs.Dtd.Declarations.{Kind, cdata, id, idref, idrefs, Definition, Declaration, element, attlist}
use Rattle.paper.specs.Dtd.Declarations.{element_names, defined_for, attribute_names, is_id}
use Rattle.paper.specs.Dtd.Numbering.{model_fits}
use Rattle.paper.specs.Dtd.Readers.{ok, Reader, outside, pure, refuse, if_at, ◌>>=◌, ◌>>◌, tested, bounded}
use Rattle.paper.specs.Dtd.Readers.{literal, mark, S?, S, name, suffix, spelled, kind, status, inside}

-- Item 4: "2 for document 01's limits"
abbrev pub limit : ℕ
limit = 2

-- ---- what is tested where it is met

-- "An element [..] declared twice: 14 where the second name ends"
abbrev pub new_element : List Declaration → Name → Bool
new_element old n = not (among n (element_names old))

-- "the 49th element where its name ends, if the name is new"
abbrev pub room_for_element : List Declaration → Bool
room_for_element old = ltb (length (element_names old)) most_elements

-- "one element's attribute declared twice"
abbrev pub new_attribute : List Declaration → Name → Name → Bool
new_attribute old e a = not (among a (map (λ d. d.name) (defined_for e old)))

-- "the 65th different attribute name where it ends"
abbrev pub room_for_attribute : List Declaration → Name → Bool
room_for_attribute old a = among a (attribute_names old) || ltb (length (attribute_names old)) most_attributes

-- "a second ID of an element (over all its ATTLISTs) at its kind"
abbrev pub id_allowed : List Declaration → Name → Kind → Bool
id_allowed old e cdata = true
id_allowed old e id = not (some_of is_id (defined_for e old))
id_allowed old e idref = true
id_allowed old e idrefs = true

module _ (known : Name → Bool) where
  -- a name in a model or of an ATTLIST
  abbrev pub mention : Reader Name
  mention = tested outside known name

  -- ---- models

  abbrev pub named : Reader Part
  named = do
    n ← mention
    q ← suffix
    pure (word n q)

  -- the parts that m reads, the bracket's suffix, and what they make
  abbrev pub behind : (Parts → Suffix → Part) → Reader Parts → Reader Part
  behind make m = do
    ps ← m
    q ← suffix
    pure (make ps q)

  abbrev pub final : Part → Reader Parts
  final p = do
    mark closing
    pure (only p)

  abbrev pub before : Part → Reader Parts → Reader Parts
  before p m = do
    ps ← m
    pure (p and ps)

  abbrev mutual
    -- from the bracket that opens to behind the one that closes
    pub group : (bound : ℕ) → Reader Part
    group zero = refuse
    group (suc bound) = do
      mark opening
      S?
      p ← if_at (eqb opening) (group bound) named
      S?
      if_at (eqb comma) (behind (λ ps. sequence (p and ps)) (rest bound comma))
          (if_at (eqb bar) (behind (choice p) (rest bound bar)) (behind sequence (final p)))

    -- from a separator on
    pub rest : (bound : ℕ) → ℕ → Reader Parts
    rest zero j = refuse
    rest (suc bound) j = do
      mark j
      S?
      p ← if_at (eqb opening) (group bound) named
      S?
      if_at (eqb j) (before p (rest bound j)) (final p)

  -- "a model's limits [..] behind its last `)` and suffix, before `S? >`"
  abbrev pub limited : Reader Content
  limited = do
    p ← tested limit model_fits (bounded group)
    pure (model p)

  abbrev pub text_only : Reader Content
  text_only = do
    mark opening
    S?
    literal word_text
    S?
    mark closing
    pure text

  -- `(`, white space and `#` stand in front
  abbrev pub hashed : List ℕ → Bool
  hashed [] = false
  hashed (b ∷ s) = begins (eqb hash) (past is_white s)

  abbrev pub contentspec : Reader Content
  contentspec = if_at (eqb opening) (λ s. cond (hashed s) (text_only s) (limited s)) (spelled word_empty empty)

  -- ---- declarations; what was declared before them is handed on

  -- behind `<!`
  abbrev pub elementdecl : List Declaration → Reader Declaration
  elementdecl old = do
    literal word_element
    S
    n ← tested limit (λ n. room_for_element old) (tested outside (new_element old) name)
    S
    c ← contentspec
    S?
    mark greater
    pure (element n c)

  -- old: what was declared before, this ATTLIST's own definitions up to here with it
  abbrev pub att_def : List Declaration → Name → Reader Definition
  att_def old e = do
    S
    a ← tested limit (room_for_attribute old) (tested outside (new_attribute old e) name)
    S
    k ← tested limit (id_allowed old e) kind
    S
    t ← status
    pure (record { name = a; kind = k; status = t })

  -- white space, and then something else than `>`: a definition is due
  abbrev pub due : List ℕ → Bool
  due s = begins is_white s && not (begins (eqb greater) (past is_white s))

  abbrev pub ended : List Definition → Reader (List Definition)
  ended own = do
    S?
    mark greater
    pure own

  abbrev pub att_defs : List Declaration → Name → (bound : ℕ) → (own : List Definition) → Reader (List Definition)
  att_defs old e zero own = refuse
  att_defs old e (suc bound) own = λ s.
      cond (due s) ((att_def (old ++ attlist e own ∷ []) e >>= λ d. att_defs old e bound (own ++ d ∷ [])) s) (ended own s)

  -- behind `<!`
  abbrev pub attlist_decl : List Declaration → Reader Declaration
  attlist_decl old = do
    literal word_attlist
    S
    e ← mention
    ds ← bounded (λ n. att_defs old e n [])
    pure (attlist e ds)

  -- behind `<!`: "--"
  abbrev pub comment : Reader (List Declaration)
  comment = do
    literal (45 ∷ 45 ∷ [])
    bounded inside
    pure []

  abbrev pub single : Reader Declaration → Reader (List Declaration)
  single m = do
    d ← m
    pure (d ∷ [])

  -- behind `<!`, by the byte there
  abbrev pub markup : List Declaration → Reader (List Declaration)
  markup old = if_at (eqb 45) comment (if_at (eqb 65) (single (attlist_decl old)) (single (elementdecl old)))

  -- white space, a comment or a declaration
  abbrev pub turn : List Declaration → Reader (List Declaration)
  turn old = if_at is_white (S? >> pure []) (literal (60 ∷ 33 ∷ []) >> markup old)

  abbrev pub declarations : (bound : ℕ) → List Declaration → Reader (List Declaration)
  declarations zero old = λ s. cond (null s) (ok old s) (refuse s)
  declarations (suc bound) old = λ s. cond (null s) (ok old s) ((turn old >>= λ new. declarations bound (old ++ new)) s)

  unfoldable pub reading : Reader (List Declaration)
  reading = bounded (λ n. declarations n [])

-- Item 4's own examples, computed. Assumes nothing.
use Rattle.std.specs.Prelude.{◌≡◌, refl, [], ◌∷◌}
use Rattle.paper.specs.Files.{bytes_of}
use Rattle.paper.specs.Dtd.Letters.{ascii}
use Rattle.paper.specs.Dtd.Reading.{reading}
use Rattle.paper.specs.Dtd.Imported.{declared, import, names, spot}

-- the smallest text
small : import (ascii "<!ELEMENT a EMPTY>") (9 ∷ 9 ∷ 9 ∷ 9 ∷ 9 ∷ 9 ∷ []) ≡ record { number = 0; count = 4; buffer = 1 ∷ 0 ∷ 0 ∷ 0 ∷ 9 ∷ 9 ∷ [] }
unfolding reading declared import bytes_of
small = refl

-- "`(a,b,c)` is a and then the pair b, c": `0 a 0 b c`
triple : import (ascii "<!ELEMENT a (a,b,c)><!ELEMENT b EMPTY><!ELEMENT c (#PCDATA)>") (9 ∷ 9 ∷ 9 ∷ 9 ∷ 9 ∷ 9 ∷ 9 ∷ 9 ∷ 9 ∷ 9 ∷ 9 ∷ 9 ∷ 9 ∷ 9 ∷ 9 ∷ 9 ∷ []) ≡ record { number = 0; count = 14; buffer = 3 ∷ 0 ∷ 2 ∷ 5 ∷ 0 ∷ 5 ∷ 0 ∷ 6 ∷ 7 ∷ 0 ∷ 0 ∷ 0 ∷ 1 ∷ 0 ∷ 9 ∷ 9 ∷ [] }
unfolding reading declared import bytes_of
triple = refl

-- "likewise for a choice"; a suffix behind the bracket stands before it
triple_choice : import (ascii "<!ELEMENT a ( a | b* | a+ )*><!ELEMENT b EMPTY>") (9 ∷ 9 ∷ 9 ∷ 9 ∷ 9 ∷ 9 ∷ 9 ∷ 9 ∷ 9 ∷ 9 ∷ 9 ∷ 9 ∷ 9 ∷ 9 ∷ 9 ∷ 9 ∷ 9 ∷ []) ≡ record { number = 0; count = 15; buffer = 2 ∷ 0 ∷ 2 ∷ 8 ∷ 3 ∷ 1 ∷ 5 ∷ 1 ∷ 3 ∷ 6 ∷ 4 ∷ 5 ∷ 0 ∷ 0 ∷ 0 ∷ 9 ∷ 9 ∷ [] }
unfolding reading declared import bytes_of
triple_choice = refl

-- "nothing is simplified (`((a?)?)` is `2 2 a`)", and a bracket round one part is that part
nested : import (ascii "<!ELEMENT a ((((a?))?))>") (9 ∷ 9 ∷ 9 ∷ 9 ∷ 9 ∷ 9 ∷ 9 ∷ 9 ∷ 9 ∷ 9 ∷ []) ≡ record { number = 0; count = 8; buffer = 1 ∷ 0 ∷ 2 ∷ 3 ∷ 2 ∷ 2 ∷ 5 ∷ 0 ∷ 9 ∷ 9 ∷ [] }
unfolding reading declared import bytes_of
nested = refl

-- "attributes by first appearance in the whole text": y is 0 and x is 1; "all its ATTLISTs together, wherever they stand"
numbered : import (ascii "<!ATTLIST b y CDATA #IMPLIED><!ELEMENT a EMPTY><!ATTLIST a x ID #REQUIRED><!ELEMENT b EMPTY><!ATTLIST a y IDREFS #IMPLIED>") (9 ∷ 9 ∷ 9 ∷ 9 ∷ 9 ∷ 9 ∷ 9 ∷ 9 ∷ 9 ∷ 9 ∷ 9 ∷ 9 ∷ 9 ∷ 9 ∷ 9 ∷ 9 ∷ 9 ∷ []) ≡ record { number = 0; count = 15; buffer = 2 ∷ 0 ∷ 0 ∷ 2 ∷ 0 ∷ 3 ∷ 1 ∷ 1 ∷ 1 ∷ 0 ∷ 0 ∷ 1 ∷ 0 ∷ 0 ∷ 1 ∷ 9 ∷ 9 ∷ [] }
unfolding reading declared import bytes_of
numbered = refl

-- the names of that text
listed : names (ascii "<!ATTLIST b y CDATA #IMPLIED><!ELEMENT a EMPTY><!ATTLIST a x ID #REQUIRED><!ELEMENT b EMPTY><!ATTLIST a y IDREFS #IMPLIED>") (9 ∷ 9 ∷ 9 ∷ 9 ∷ 9 ∷ 9 ∷ 9 ∷ 9 ∷ 9 ∷ []) ≡ record { number = 0; count = 8; buffer = 97 ∷ 10 ∷ 98 ∷ 10 ∷ 121 ∷ 10 ∷ 120 ∷ 10 ∷ 9 ∷ [] }
unfolding reading declared names
listed = refl

-- two separators in one bracket: 14 at the second
mixed_separators : spot (ascii "<!ELEMENT a (a , a | a)>") ≡ record { number = 14; offset = 19 }
unfolding reading declared spot
mixed_separators = refl

-- no white space before a suffix
spaced_suffix : spot (ascii "<!ELEMENT a (a) *>") ≡ record { number = 14; offset = 16 }
unfolding reading declared spot
spaced_suffix = refl

-- white space before a model
unspaced : spot (ascii "<!ELEMENT a(a)>") ≡ record { number = 14; offset = 11 }
unfolding reading declared spot
unspaced = refl

-- no comment inside a declaration
comment_within : spot (ascii "<!ELEMENT a <!-- --> EMPTY>") ≡ record { number = 14; offset = 12 }
unfolding reading declared spot
comment_within = refl

-- no `--` inside a comment
double_hyphen : spot (ascii "<!-- a -- b -->") ≡ record { number = 14; offset = 9 }
unfolding reading declared spot
double_hyphen = refl

-- an element declared nowhere, at its name
undeclared : spot (ascii "<!ELEMENT a (a,b)>") ≡ record { number = 14; offset = 15 }
unfolding reading declared spot
undeclared = refl

-- an element declared twice, at its second name, though rubbish follows
twice : spot (ascii "<!ELEMENT a EMPTY><!ELEMENT a $") ≡ record { number = 14; offset = 28 }
unfolding reading declared spot
twice = refl

-- a second ID, in another ATTLIST: 2 at its kind
second_id : spot (ascii "<!ATTLIST a x ID #IMPLIED><!ATTLIST a y ID$") ≡ record { number = 2; offset = 40 }
unfolding reading declared spot
second_id = refl

-- no element: 14 at the end
nothing : spot (ascii "<!-- -->") ≡ record { number = 14; offset = 8 }
unfolding reading declared spot
nothing = refl

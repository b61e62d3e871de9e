-- The sets of attributes of a block. Assumes nothing.
use Rattle.std.specs.Prelude.{◌≡◌, Bool, ◌&&◌, List, ℕ}
use Rattle.paper.specs.Table.{cell, allowed_at, required_at, id_at, idref_at, idrefs_at, within, apart, single, proper_sets}

pub sets_test : (b : List ℕ) {p q r s t u v w : Bool}
    → p ≡ within (cell b required_at) (cell b allowed_at)
    → q ≡ within (cell b id_at) (cell b allowed_at)
    → r ≡ within (cell b idref_at) (cell b allowed_at)
    → s ≡ within (cell b idrefs_at) (cell b allowed_at)
    → t ≡ apart (cell b id_at) (cell b idref_at)
    → u ≡ apart (cell b id_at) (cell b idrefs_at)
    → v ≡ apart (cell b idref_at) (cell b idrefs_at)
    → w ≡ single (cell b id_at)
    → (p && q && r && s && t && u && v && w) ≡ proper_sets b
unfolding proper_sets
sets_test b e f g h i j k l = rw (e, f, g, h, i, j, k, l)

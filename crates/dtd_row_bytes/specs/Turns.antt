-- The walk over a row, a turn at a time. Assumes nothing.
use Rattle.std.specs.Prelude.{◌≡◌, refl, Bool, true, false, List, ◌∷◌, ◌++◌, map, ℕ, ◌+◌, ◌^◌, ◌≤◌, ◌<◌, set}
use Rattle.std.proofs.Math.Path.{sym}
use Rattle.std.proofs.Common.{ap, ◌∙◌, add-one, length-set}
use native.Mathlib.Omega.{arith}
use Rattle.std.proofs.Math.Numerals.{add-two}
use Rattle.std.specs.Int.Count.{ones}
use Rattle.std.proofs.lemmas.Nat.{ones-le}
use Rattle.std.proofs.Math.ListN.{length}
use Rattle.std.proofs.lemmas.List.{length-map}
use Rattle.paper.specs.Basics.{concat, most_attributes}
use Rattle.paper.specs.declared.Kind.{Kind}
use Rattle.paper.specs.declared.Status.{Status}
use Rattle.paper.specs.Codes.{kind_of, status_of}
use Rattle.paper.specs.SchemaWritten.{attribute_written}
use Rattle.paper.specs.Sets.{bit}
use Rattle.lines.specs.Put.{Put, put_both, put_as, put_one}
use Rattle.lines.specs.Putting.{Putting, putting_none, putting_more, putting_all}
use Rattle.sets.specs.Lowest.{Taken, taken_below, turn}
use Rattle.dtd_rows.specs.declared.Row.{Row}
use Rattle.dtd_row_bytes.specs.Members.{members_to, members_none, members_next, members_count}
use Rattle.dtd_row_bytes.specs.Rows.{kind_in, status_in, attribute_in, attributes_of, row_from, row_written, no_value}

-- ---- one attribute, by the sets that it is in

module _ (r : Row) (k : ℕ) where
  module _ (x : Bool) (p : x ≡ bit r.id k) where
    pub is_id_lem : x ≡ true → 1 ≡ kind_in r k
    is_id_lem q = rw (sym p ∙ q)

    module _ (y : Bool) (e : y ≡ bit r.idref k) (no_id : x ≡ false) where
      pub is_idref : y ≡ true → 2 ≡ kind_in r k
      is_idref q = rw (sym p ∙ no_id, sym e ∙ q)

      module _ (z : Bool) (f : z ≡ bit r.idrefs k) (no-idref : y ≡ false) where
        pub is_idrefs : z ≡ true → 3 ≡ kind_in r k
        is_idrefs q = rw (sym p ∙ no_id, sym e ∙ no-idref, sym f ∙ q)

        pub is_cdata : z ≡ false → 0 ≡ kind_in r k
        is_cdata q = rw (sym p ∙ no_id, sym e ∙ no-idref, sym f ∙ q)

  module _ (x : Bool) (p : x ≡ bit r.required k) where
    pub is_required_lem : x ≡ true → 0 ≡ status_in r k
    is_required_lem q = rw (sym p ∙ q)

    pub is_implied : x ≡ false → 1 ≡ status_in r k
    is_implied q = rw (sym p ∙ q)

  pub attribute_put : (s : List ℕ) (at b c : ℕ) → at + 3 ≤ length s → (x : Kind) → b ≡ kind_of x → kind_of x ≡ kind_in r k → (y : Status) → c ≡ status_of y → status_of y ≡ status_in r k
      → Put s at (attribute_written (attribute_in r k)) (at + 3) (set (set (set s at k) (at + 1) b) (at + 2) c)
  attribute_put s at b c h x b' p y c' q = rw (b' ∙ p, c' ∙ q, no_value (bit r.required k)) (record { place = refl; within = h; bytes = rw (add-one at, add-two at) })

-- ---- all of them

module _ (r : Row) (s : List ℕ) (at : ℕ) where
  -- what is left to put is the attributes of `rest`
  pub record Walking (next rest : ℕ) (t : List ℕ) : Type 0 where
    pub fits : rest < 2 ^ 64
    pub putting : Putting s at (row_from r r.allowed) next t (row_from r rest)
    pub long : length t ≡ length s

  pub walking_none : r.allowed < 2 ^ 64 → at + length (row_from r r.allowed) ≤ length s → Walking at r.allowed s
  walking_none f h = record { fits = f; putting = putting_none s at (row_from r r.allowed) h; long = refl }

  module _ (next rest : ℕ) (t : List ℕ) (w : Walking next rest t) where
    module _ (k v : ℕ) (z : Taken rest k v) where
      from_next : row_from r rest ≡ attribute_written (attribute_in r k) ++ row_from r v
      from_next = rw (z.lowest, z.others) (ap (λ l. concat (map attribute_written (map (attribute_in r) l))) (members_next 64 rest w.fits z.some))

      pub walking_room : (k < 64) × (next + 3 ≤ length t)
      walking_room = (taken_below rest k v w.fits z, omega (arith, w.putting.room, ap length from_next))

      pub walking_more : (n : ℕ) (u : List ℕ) → Put t next (attribute_written (attribute_in r k)) n u → Walking n v u
      walking_more n u q =
          let p = putting_more s at (row_from r r.allowed) next t (row_from r rest) w.putting (attribute_written (attribute_in r k)) (row_from r v) n u from_next q in
          record { fits = rw z.others (turn 64 rest w.fits z.some).fits; putting = p; long = p.long }

    pub walking_all : rest ≡ 0 → Put s at (row_from r r.allowed) next t
    walking_all z =
        putting_all s at (row_from r r.allowed) next t (row_from r rest) w.putting
        (ap (λ l. concat (map attribute_written (map (attribute_in r) l))) (ap (members_to 64) z ∙ members_none 64))

-- ---- and their count before them

pub few_ones : (w : ℕ) → w < 2 ^ 64 → ones w < 256
few_ones w h = omega (arith, ones-le 64 w h)

module _ (r : Row) (s : List ℕ) (at : ℕ) (h : at + length (row_written r) ≤ length s) where
  pub some_room : at < length s
  unfolding row_written
  some_room = omega arith

  pub rest_room : (n : ℕ) → at + 1 + length (row_from r r.allowed) ≤ length (set s at n)
  unfolding row_written
  rest_room n = rw (length-set s at n) (omega arith)

  pub row_put : (n m : ℕ) (t : List ℕ) → r.allowed < 2 ^ 64 → n ≡ ones r.allowed → Put (set s at n) (at + 1) (row_from r r.allowed) m t → Put s at (row_written r) m t
  unfolding row_written
  row_put n m t f e p =
      let k : n ≡ length (attributes_of r r.allowed) = e ∙ members_count 64 r.allowed f ∙ sym (length-map (members_to most_attributes r.allowed) (attribute_in r)) in
      put_as (put_both (put_one s at n some_room) p) (ap (λ z. z ∷ row_from r r.allowed) k)

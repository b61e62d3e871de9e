-- The attributes of an element, one after another, and their five sets. Assumes nothing.
use Rattle.std.specs.Prelude.{◌≡◌, refl, Result, Bool, true, false, cond, ◌||◌, List, [], ◌∷◌, ◌++◌, ℕ, suc, ◌+◌, ◌-◌, ◌^◌, ◌≤◌, ◌<◌, eqb, length, drop, get_or}
use Rattle.std.proofs.Common.{sym, ap, ◌∙◌, append_assoc, append-nil, arith, add-one, length-append, eqb-true, eq-eqb, ne_eqb}
use Rattle.std.specs.Int.Bits.{bit_or, or_zero_l, or_zero_r}
use Rattle.paper.specs.Basics.{most_attributes, most_fixed, cons_if}
use Rattle.paper.specs.Sets.{when}
use Rattle.paper.specs.Schema.{Attribute, is_fixed, Parsed, stop, ok, Reader, pure, onward, number, kind_after, most_status, value_after, attributes_from}
use Rattle.paper.specs.Table.{entries, entries_of, fixed_numbers, set_of, of_kind, is_required}
use Rattle.sets.specs.Union.{or_assoc}
use Rattle.paper.specs.Codes.{number_of, kind_of, status_of}
use Rattle.paper.specs.declared.Refusal.{Refusal}
use Rattle.paper.specs.declared.Kind.{Kind}
use Rattle.paper.specs.declared.Kind.TheVariants.{Cdata, Id, Idref, Idrefs}
use Rattle.paper.specs.declared.Status.{Status}
use Rattle.paper.specs.declared.Status.TheVariants.{Required, Implied, Fixed}
use Rattle.paper.specs.contracts.Kind.{the_type as kind_type}
use Rattle.paper.specs.contracts.Status.{the_type as status_type}
use denote.Enum.Bare.{sameb}
use Rattle.reading.specs.Ended.{Went, Ended, prefixed, prefixed_none, prefixed_more}
use Rattle.attlist.specs.declared.Declared.{Declared}
use Rattle.attlist.specs.declared.Attributes.{Attributes}
use Rattle.entries.specs.Held.{Held, entry_of, held_entries, held_of}
use Rattle.attlist.specs.Status.{status_from}
use Rattle.attlist.specs.Attribute.{attribute, attribute_of, AttributeAt, attribute_low, attribute_room}

abbrev pub no_sets : ℕ → Attributes
no_sets next = record { next = next; low = 0; had = false; allowed = 0; required = 0; id = 0; idref = 0; idrefs = 0 }

abbrev pub with_attribute : Attributes → Declared → Attributes
with_attribute s a = record {
  next = a.next;
  low = a.attribute + 1;
  had = s.had || eqb (kind_of a.kind) 1;
  allowed = bit_or s.allowed (2 ^ a.attribute);
  required = bit_or s.required (when (eqb (status_of a.status) 0) (2 ^ a.attribute));
  id = bit_or s.id (when (eqb (kind_of a.kind) 1) (2 ^ a.attribute));
  idref = bit_or s.idref (when (eqb (kind_of a.kind) 2) (2 ^ a.attribute));
  idrefs = bit_or s.idrefs (when (eqb (kind_of a.kind) 3) (2 ^ a.attribute));
}

-- the five sets of the attributes
pub record SetsOf (l : List Attribute) (s : Attributes) : Type 0 where
  pub allowed : s.allowed ≡ set_of (λ a. true) l
  pub required : s.required ≡ set_of is_required l
  pub id : s.id ≡ set_of (of_kind 1) l
  pub idref : s.idref ≡ set_of (of_kind 2) l
  pub idrefs : s.idrefs ≡ set_of (of_kind 3) l

-- the entries of an element's attributes behind those that were held
pub record EntriesOf (e : ℕ) (l : List Attribute) (before after : List ℕ) : Type 0 where
  pub few : length (entries before ++ entries_of e l) ≤ most_fixed
  pub added : after ≡ fixed_numbers (entries before ++ entries_of e l)

abbrev pub AttributesAt : ℕ → ℕ → List ℕ → ℕ → (before after : List ℕ) → Result Attributes Refusal → Type 0
AttributesAt n e file at before after =
    Ended (attributes_from n 0 false (length (entries before)) (drop at file)) file (λ r. r.next) (λ r l. SetsOf l r × EntriesOf e l before after)

-- ---- one set, with one more

set_last : (P : Attribute → Bool) (l : List Attribute) (y : Attribute) → set_of P (l ++ y ∷ []) ≡ bit_or (set_of P l) (when (P y) (2 ^ y.number))
set_last P [] y = or_zero_r (when (P y) (2 ^ y.number)) ∙ sym (or_zero_l (when (P y) (2 ^ y.number)))
set_last P (x ∷ l) y =
    ap (bit_or (when (P x) (2 ^ x.number))) (set_last P l y)
    ∙ sym (or_assoc (when (P x) (2 ^ x.number)) (set_of P l) (when (P y) (2 ^ y.number)))

sets_none : {s : Attributes} (at : ℕ) → s ≡ no_sets at → SetsOf [] s
sets_none at e = rw e (record { allowed = refl; required = refl; id = refl; idref = refl; idrefs = refl })

sets_more : {l : List Attribute} {s r : Attributes} (a : Declared) → SetsOf l s → r ≡ with_attribute s a → SetsOf (l ++ attribute_of a ∷ []) r
sets_more {l} {s} {r} a t e = rw e (record {
  allowed = one (λ y. true) t.allowed;
  required = one is_required t.required;
  id = one (of_kind 1) t.id;
  idref = one (of_kind 2) t.idref;
  idrefs = one (of_kind 3) t.idrefs;
})
  where
    one : (P : Attribute → Bool) {w : ℕ} → w ≡ set_of P l → bit_or w (when (P (attribute_of a)) (2 ^ a.attribute)) ≡ set_of P (l ++ attribute_of a ∷ [])
    one P q = rw q (sym (set_last P l (attribute_of a)))

-- an attribute's kind and status are tested as enums
is_kind : (k x : Kind) → sameb kind_type k x ≡ eqb (kind_of k) (kind_of x)
is_kind k x = by k x
  where
    by : (k x : Kind) → sameb kind_type k x ≡ eqb (kind_of k) (kind_of x)
    by Cdata Cdata = refl
    by Cdata Id = refl
    by Cdata Idref = refl
    by Cdata Idrefs = refl
    by Id Cdata = refl
    by Id Id = refl
    by Id Idref = refl
    by Id Idrefs = refl
    by Idref Cdata = refl
    by Idref Id = refl
    by Idref Idref = refl
    by Idref Idrefs = refl
    by Idrefs Cdata = refl
    by Idrefs Id = refl
    by Idrefs Idref = refl
    by Idrefs Idrefs = refl

needed : (t : Status) → sameb status_type t Required ≡ eqb (status_of t) 0
needed Required = refl
needed Implied = refl
needed Fixed = refl

-- as the code makes them of the set of the attribute alone
pub with_made : (s : Attributes) (a : Declared) {o w x y z : ℕ} {h i j k m : Bool} → o ≡ 2 ^ a.attribute → w ≡ when h o → x ≡ when j o → y ≡ when k o
    → z ≡ when m o → h ≡ sameb status_type a.status Required → i ≡ sameb kind_type a.kind Id → j ≡ sameb kind_type a.kind Id
    → k ≡ sameb kind_type a.kind Idref → m ≡ sameb kind_type a.kind Idrefs
    → ◌≡◌ {A = Attributes} (record { next = a.next; low = a.attribute + 1; had = s.had || i; allowed = bit_or s.allowed o; required = bit_or s.required w; id = bit_or s.id x; idref = bit_or s.idref y; idrefs = bit_or s.idrefs z }) (with_attribute s a)
with_made s a o w x y z h i j k m =
    rw (w, x, y, z, h, i, j, k, m, o, needed a.status, is_kind a.kind Id, is_kind a.kind Idref, is_kind a.kind Idrefs)

-- ---- one more entry

-- entries are held, with room for one more if the attribute is fixed
pub record Room (f : List ℕ) (a : Declared) : Type 0 where
  pub held : Held f
  pub room : status_of a.status ≡ 2 → get_or f 0 0 < most_fixed

entries_last : (e : ℕ) (l : List Attribute) (y : Attribute) → entries_of e (l ++ y ∷ []) ≡ entries_of e l ++ entries_of e (y ∷ [])
entries_last e [] y = refl
entries_last e (x ∷ l) y = go (is_fixed x) (entries_last e l y)
  where
    go : (b : Bool) → entries_of e (l ++ y ∷ []) ≡ entries_of e l ++ entries_of e (y ∷ [])
        → cons_if b (entry_of e x.number x.value) (entries_of e (l ++ y ∷ [])) ≡ cons_if b (entry_of e x.number x.value) (entries_of e l) ++ entries_of e (y ∷ [])
    go true h = ap (λ r. entry_of e x.number x.value ∷ r) h
    go false h = h

-- ---- one after another

module _ (m low : ℕ) (had : Bool) (met : ℕ) where
  abbrev more : Attribute → Reader (List Attribute)
  more y t = onward (attributes_from m (suc y.number) (had || eqb y.kind 1) (met + cond (eqb y.status 2) 1 0) t) (λ rest. pure (y ∷ rest))

  abbrev of : ℕ → ℕ → ℕ × ℕ → Attribute
  of a k p = record { number = a; kind = k; status = p.0; value = p.1 }

  fourth : (a k s : ℕ) (o : Parsed ℕ)
      → onward o (λ v w. more (of a k (s, v)) w) ≡ onward (onward (onward o (λ v. pure (s, v))) (λ p. pure (of a k p))) more
  fourth a k s (stop n) = refl
  fourth a k s (ok v w) = refl

  third : (a k : ℕ) (o : Parsed ℕ)
      → onward o (λ s u. onward (value_after s u) (λ v w. more (of a k (s, v)) w))
      ≡ onward (onward (onward o (λ s u. onward (value_after s u) (λ v. pure (s, v)))) (λ p. pure (of a k p))) more
  third a k (stop n) = refl
  third a k (ok s u) = fourth a k s (value_after s u)

  second : (a : ℕ) (o : Parsed ℕ)
      → onward o (λ k t. onward (number 0 (most_status k met) t) (λ s u. onward (value_after s u) (λ v w. more (of a k (s, v)) w)))
      ≡ onward (onward o (λ k t. onward (status_from k met t) (λ p. pure (of a k p)))) more
  second a (stop n) = refl
  second a (ok k t) = third a k (number 0 (most_status k met) t)

  first : (o : Parsed ℕ)
      → onward o (λ a t. onward (kind_after had t) (λ k t. onward (number 0 (most_status k met) t) (λ s u. onward (value_after s u) (λ v w. more (of a k (s, v)) w))))
      ≡ onward (onward o (λ a t. onward (kind_after had t) (λ k t. onward (status_from k met t) (λ p. pure (of a k p))))) more
  first (stop n) = refl
  first (ok a t) = second a (kind_after had t)

  attributes_next : (s : List ℕ) → attributes_from (suc m) low had met s ≡ onward (attribute low had met s) more
  attributes_next s = first (number low (most_attributes - 1) s)

-- i attributes are read; `fixed` holds the entries
pub record Listing (n e : ℕ) (file : List ℕ) (at : ℕ) (before fixed : List ℕ) (s : Attributes) (i : ℕ) : Type 0 where
  pub l : List Attribute
  pub few : i ≤ n
  pub within : s.next ≤ length file
  pub same : attributes_from n 0 false (length (entries before)) (drop at file)
      ≡ prefixed l (attributes_from (n - i) s.low s.had (length (entries fixed)) (drop s.next file))
  pub sets : SetsOf l s
  pub held : Held fixed
  pub entered : entries fixed ≡ entries before ++ entries_of e l

module _ (n e : ℕ) (file : List ℕ) (at : ℕ) (before : List ℕ) where
  pub list_none : {s : Attributes} → at ≤ length file → Held before → s ≡ no_sets at → Listing n e file at before before s 0
  list_none {s} h held q =
      let b : n - 0 ≡ n = omega arith in
      rw q (record {
        l = [];
        few = omega arith;
        within = h;
        same = rw b (prefixed_none (attributes_from n 0 false (length (entries before)) (drop at file)));
        sets = sets_none at refl;
        held = held;
        entered = sym (append-nil (entries before));
      })

  module _ {fixed : List ℕ} {s : Attributes} {i : ℕ} (t : Listing n e file at before fixed s i) where
    pub list_kept : Held before → length fixed ≡ length before
    list_kept h = t.held.long ∙ sym h.long

    pub list_end : n ≤ i → Went (attributes_from n 0 false (length (entries before)) (drop at file)) file s.next (λ l. SetsOf l s × EntriesOf e l before fixed)
    list_end h =
        let z : n - i ≡ 0 = omega arith in
        record {
          value = t.l;
          reads = t.same ∙ rw z (ap (λ l. ok l (drop s.next file)) (append-nil t.l));
          within = t.within;
          holds = (
            t.sets,
            record {
              few = omega (arith, ap length t.entered, t.held.count, t.held.few);
              added = t.held.same ∙ ap fixed_numbers t.entered;
            },
          );
        }

    module _ (h : i < n) {met : ℕ} (m : met ≡ length (entries fixed)) where
      left : n - i ≡ suc (n - (i + 1))
      left = omega arith

      pub list_stop : (x : Refusal) → attribute s.low s.had met (drop s.next file) ≡ stop (number_of x)
          → attributes_from n 0 false (length (entries before)) (drop at file) ≡ stop (number_of x)
      list_stop x w = t.same ∙ rw (left, ← m, attributes_next (n - (i + 1)) s.low s.had met (drop s.next file), w)

      module _ (a : Declared) (v : Went (attribute s.low s.had met (drop s.next file)) file a.next (λ y. y ≡ attribute_of a)) where
        reads : attribute s.low s.had met (drop s.next file) ≡ ok (attribute_of a) (drop a.next file)
        reads = v.reads ∙ ap (λ y. ok y (drop a.next file)) v.holds

        pub list_low : a.attribute < most_attributes
        list_low = attribute_low s.low s.had met (drop s.next file) reads

        room_for : status_of a.status ≡ 2 → get_or fixed 0 0 < most_fixed
        room_for two = let r = attribute_room s.low s.had met (drop s.next file) reads two in omega (arith, t.held.count)

        pub list_room : Room fixed a
        list_room = record { held = t.held; room = room_for }

        pub list_more : {r : Attributes} {after : List ℕ} → after ≡ fixed_numbers (entries fixed ++ entries_of e (attribute_of a ∷ []))
            → r ≡ with_attribute s a → Listing n e file at before after r (i + 1)
        list_more {r} {after} g q =
            let now = held_entries (entries fixed ++ entries_of e (attribute_of a ∷ [])) g in
            let count : length (entries after) ≡ met + cond (eqb (status_of a.status) 2) 1 0 = counted (ap length now ∙ length-append (entries fixed) (entries_of e (attribute_of a ∷ []))) in
            rw q (record {
              l = t.l ++ attribute_of a ∷ [];
              few = omega arith;
              within = v.within;
              same =
                  t.same
                  ∙ rw (left, ← m, attributes_next (n - (i + 1)) s.low s.had met (drop s.next file), reads, add-one a.attribute, count)
                  (prefixed_more t.l (attribute_of a)
                  (attributes_from (n - (i + 1)) (suc a.attribute) (s.had || eqb (kind_of a.kind) 1) (met + cond (eqb (status_of a.status) 2) 1 0) (drop a.next file)));
              sets = sets_more a t.sets refl;
              held = held_of (entries fixed ++ entries_of e (attribute_of a ∷ [])) (fits (eqb (status_of a.status) 2) refl) g;
              entered = now ∙ ap (λ r. r ++ entries_of e (attribute_of a ∷ [])) t.entered
                  ∙ append_assoc (entries before) (entries_of e t.l) (entries_of e (attribute_of a ∷ []))
                  ∙ ap (λ r. entries before ++ r) (sym (entries_last e t.l (attribute_of a)));
            })
          where
            counted : {c : ℕ} → c ≡ length (entries fixed) + length (entries_of e (attribute_of a ∷ [])) → c ≡ met + cond (eqb (status_of a.status) 2) 1 0
            counted q = q ∙ rw m (ap (λ k. length (entries fixed) + k) (one (eqb (status_of a.status) 2)))
              where
                one : (b : Bool) → length (cons_if b (entry_of e a.attribute a.value) []) ≡ cond b 1 0
                one true = refl
                one false = refl

            fits : (b : Bool) → eqb (status_of a.status) 2 ≡ b → length (entries fixed ++ cons_if b (entry_of e a.attribute a.value) []) ≤ most_fixed
            fits true p =
                let r = room_for (eqb-true (status_of a.status) 2 p) in
                omega (arith, length-append (entries fixed) (entry_of e a.attribute a.value ∷ []), t.held.count)
            fits false p = omega (arith, ap length (append-nil (entries fixed)), t.held.count, t.held.few)

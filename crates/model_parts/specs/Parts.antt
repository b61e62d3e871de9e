-- How the parts of an operator make the whole. Assumes nothing.
use Rattle.std.specs.Prelude.{Bool, false, ◌&&◌, ◌||◌, ℕ, ◌+◌, ◌^◌}
use Rattle.std.specs.Int.Bits.{bit_or}
use Rattle.paper.specs.Sets.{when}
use Rattle.model_parts.specs.declared.Part.{Part}

-- a name, occurrence p
abbrev pub single : ℕ → ℕ → Part
single at p = record { next = at + 1; places = p + 1; nullable = false; first = 2 ^ p; last = 2 ^ p }

-- one part after the other
abbrev pub sequence : Part → Part → Part
sequence a b = record {
  next = b.next;
  places = b.places;
  nullable = a.nullable && b.nullable;
  first = bit_or a.first (when a.nullable b.first);
  last = bit_or b.last (when b.nullable a.last);
}

-- either part
abbrev pub choice : Part → Part → Part
choice a b = record {
  next = b.next;
  places = b.places;
  nullable = a.nullable || b.nullable;
  first = bit_or a.first b.first;
  last = bit_or a.last b.last;
}

-- the part, where no child at all may match too if the test holds
abbrev pub also : Bool → Part → Part
also none a = record { next = a.next; places = a.places; nullable = none || a.nullable; first = a.first; last = a.last }

-- Structs as the Thrift compact protocol spells them, and bytes that spell none.
use Rattle.std.specs.Prelude.{◌≡◌, ℕ, pos, negsuc, List, [], ◌∷◌, true, false}
use Rattle.pq_thrift.specs.Grammar.{Spells, depth}
use Rattle.pq_thrift.specs.Spelling.{spell}
use Rattle.pq_thrift.specs.Written.{IsWritten}
use Rattle.pq_thrift.specs.Value.{Value, truth, int8, int16, int32, int64, double, binary, list, set, map, struct, no_values, value, no_pairs, pair, no_fields, field}

-- a struct with one field, of id 1
abbrev pub one : Value → Value
one v = struct (field (pos 1) v no_fields)

abbrev pub letters : List ℕ
letters = 97 ∷ 98 ∷ []

abbrev pub eight : List ℕ
eight = 0 ∷ 0 ∷ 0 ∷ 0 ∷ 0 ∷ 0 ∷ 240 ∷ 63 ∷ []

-- no text of it spells a value
abbrev pub SpellsNone : List ℕ → Type 0
SpellsNone text = (v : Value) → Spells text v → ⊥

pub record AreSpelled : Type 0 where
  pub empty : Spells (0 ∷ []) (struct no_fields)
  -- a truth value stands in the header
  pub yes : Spells (17 ∷ 0 ∷ []) (one (truth true))
  pub no : Spells (18 ∷ 0 ∷ []) (one (truth false))
  pub byte : Spells (19 ∷ 255 ∷ 0 ∷ []) (one (int8 (negsuc 0)))
  pub short : Spells (20 ∷ 3 ∷ 0 ∷ []) (one (int16 (negsuc 1)))
  pub word : Spells (21 ∷ 172 ∷ 2 ∷ 0 ∷ []) (one (int32 (pos 150)))
  pub long : Spells (22 ∷ 1 ∷ 0 ∷ []) (one (int64 (negsuc 0)))
  pub float : Spells (23 ∷ 0 ∷ 0 ∷ 0 ∷ 0 ∷ 0 ∷ 0 ∷ 240 ∷ 63 ∷ 0 ∷ []) (one (double eight))
  pub text : Spells (24 ∷ 2 ∷ 97 ∷ 98 ∷ 0 ∷ []) (one (binary letters))
  -- in a list a truth value is a byte, true where that is 1
  pub truths : Spells (25 ∷ 49 ∷ 1 ∷ 2 ∷ 0 ∷ 0 ∷ []) (one (list 1 (value (truth true) (value (truth false) (value (truth false) no_values)))))
  pub numbers : Spells (26 ∷ 37 ∷ 2 ∷ 4 ∷ 0 ∷ []) (one (set 5 (value (int32 (pos 1)) (value (int32 (pos 2)) no_values))))
  -- an empty list of no type, and a size below 15 in the long form
  pub nothing : Spells (25 ∷ 0 ∷ 0 ∷ []) (one (list 0 no_values))
  pub far : Spells (25 ∷ 243 ∷ 1 ∷ 7 ∷ 0 ∷ []) (one (list 3 (value (int8 (pos 7)) no_values)))
  pub no_pair : Spells (27 ∷ 0 ∷ 0 ∷ []) (one (map 0 0 no_pairs))
  pub one_pair : Spells (27 ∷ 1 ∷ 133 ∷ 1 ∷ 97 ∷ 4 ∷ 0 ∷ []) (one (map 8 5 (pair (binary (97 ∷ [])) (int32 (pos 2)) no_pairs)))
  pub inner : Spells (28 ∷ 0 ∷ 0 ∷ []) (one (struct no_fields))
  -- an id that follows its header, in two bytes of which the second is padding, and one that steps on from it
  pub ids : Spells (5 ∷ 131 ∷ 0 ∷ 2 ∷ 37 ∷ 4 ∷ 0 ∷ []) (struct (field (negsuc 1) (int32 (pos 1)) (field (pos 0) (int32 (pos 2)) no_fields)))

pub record AreNot : Type 0 where
  pub nothing : SpellsNone []
  pub unclosed : SpellsNone (21 ∷ 2 ∷ [])
  -- types 13 and 0, in a header and in a list with an element
  pub no_type : SpellsNone (29 ∷ 0 ∷ 0 ∷ [])
  pub no_end : SpellsNone (16 ∷ 0 ∷ [])
  pub no_elements : SpellsNone (25 ∷ 16 ∷ 0 ∷ 0 ∷ [])
  pub no_keys : SpellsNone (27 ∷ 1 ∷ 5 ∷ 2 ∷ 4 ∷ 0 ∷ [])
  -- a number of 17 bits for an id, and for 16 bits
  pub large_id : SpellsNone (5 ∷ 128 ∷ 128 ∷ 4 ∷ 2 ∷ 0 ∷ [])
  pub large : SpellsNone (20 ∷ 128 ∷ 128 ∷ 4 ∷ 0 ∷ [])
  -- the id 32,767, and one more
  pub past_ids : SpellsNone (5 ∷ 254 ∷ 255 ∷ 3 ∷ 2 ∷ 21 ∷ 2 ∷ 0 ∷ [])
  pub cut : SpellsNone (24 ∷ 3 ∷ 97 ∷ 98 ∷ [])

pub record AreDeep : Type 0 where
  pub number : depth (int32 (pos 5)) ≡ 1
  pub empty : depth (struct no_fields) ≡ 1
  pub empty_list : depth (list 0 no_values) ≡ 1
  pub one_number : depth (one (int32 (pos 5))) ≡ 2
  pub truths : depth (one (list 1 (value (truth true) no_values))) ≡ 3
  pub pairs : depth (one (map 8 5 (pair (binary []) (one (truth true)) no_pairs))) ≡ 4

-- what is written
pub record AreWritten : Type 0 where
  pub steps : spell (struct (field (pos 1) (int32 (pos 1)) (field (pos 16) (truth true) (field (pos 32) (truth false) no_fields)))) ≡ 21 ∷ 2 ∷ 241 ∷ 2 ∷ 64 ∷ 0 ∷ []
  pub pairs : spell (one (map 8 5 (pair (binary (97 ∷ [])) (int32 (pos 2)) no_pairs))) ≡ 27 ∷ 1 ∷ 133 ∷ 1 ∷ 97 ∷ 4 ∷ 0 ∷ []
  pub no_pair : spell (one (map 0 0 no_pairs)) ≡ 27 ∷ 0 ∷ 0 ∷ []
  pub truths : spell (one (list 2 (value (truth true) (value (truth false) no_values)))) ≡ 25 ∷ 34 ∷ 1 ∷ 2 ∷ 0 ∷ []

-- spelled, and not written so: a padded varint, and a size below 15 in the long form
pub record AreOtherSpellings : Type 0 where
  pub padded : Spells (21 ∷ 130 ∷ 0 ∷ 0 ∷ []) (one (int32 (pos 1))) × (¬ IsWritten (21 ∷ 130 ∷ 0 ∷ 0 ∷ []) (one (int32 (pos 1))))
  pub far : ¬ IsWritten (25 ∷ 243 ∷ 1 ∷ 7 ∷ 0 ∷ []) (one (list 3 (value (int8 (pos 7)) no_values)))
  pub near : IsWritten (25 ∷ 19 ∷ 7 ∷ 0 ∷ []) (one (list 3 (value (int8 (pos 7)) no_values)))

pub record AreWorked : Type 0 where
  pub spelled : AreSpelled
  pub none : AreNot
  pub deep : AreDeep
  pub written : AreWritten
  pub others : AreOtherSpellings

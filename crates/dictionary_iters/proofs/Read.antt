-- Which dictionary types are read.
use Rattle.std.proofs.Common.{◌≡◌, Bool, true, false, List, refl, sym, true≢false}
use Rattle.std.proofs.lemmas.Bool.{eq-eqb}
use Rattle.columns_core.specs.Shapes.{base}
use Rattle.columns_core.specs.Tree.{TypeTree, t_binary, t_dictionary, t_fixed_size_binary, t_large_binary, t_large_utf8, t_utf8}
use Rattle.columns_core.specs.declared.types.IntegerType.{IntegerType}
use Rattle.dictionary_leaves.specs.Dictionaries.{is_dictionary_read, is_entry_read}
use Rattle.pq_tree.specs.Physical.{byte_array, fixed}
use Rattle.read_state.specs.declared.init.InitNested.{InitNested}
use Rattle.dictionary_iters.specs.Types.{IsDictionaryOf, chunk_size_of, entry_size, is_chunk, is_string}

strings : (large : Bool) (parts : List InitNested) (t : TypeTree) → is_string large t ≡ true → is_entry_read parts t byte_array ≡ true
strings false parts t_utf8 h = refl
strings false parts t_binary h = refl
strings false parts t h = absurd (true≢false (sym h))
strings true parts t_large_utf8 h = refl
strings true parts t_large_binary h = refl
strings true parts t h = absurd (true≢false (sym h))

pub strings_read : (key : IntegerType) (large : Bool) (parts : List InitNested) (t : TypeTree) → IsDictionaryOf key (is_string large) t → is_dictionary_read parts t byte_array ≡ true
strings_read key large parts (t_dictionary k t s) h = strings large parts (base t) h.1
strings_read key large parts t h = absurd h

chunks : (parts : List InitNested) (t : TypeTree) → is_chunk t ≡ true → is_entry_read parts t (fixed (chunk_size_of t)) ≡ true
chunks parts (t_fixed_size_binary n) h = rw (eq-eqb n n refl, h) refl
chunks parts t h = absurd (true≢false (sym h))

pub chunks_read : (key : IntegerType) (parts : List InitNested) (t : TypeTree) → IsDictionaryOf key is_chunk t → is_dictionary_read parts t (fixed (entry_size t)) ≡ true
chunks_read key parts (t_dictionary k t s) h = chunks parts (base t) h.1
chunks_read key parts t h = absurd h

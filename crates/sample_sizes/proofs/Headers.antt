-- How long the headers of pages are, where bounds are short.
use Rattle.std.proofs.Common.{◌≡◌, ℕ, ◌≤◌, List, length, Option, Some, None, refl, ap, arith}
use Rattle.std.specs.Prelude.{option_map}
use Rattle.pq_files.specs.Layout.{OutPage}
use Rattle.pq_files.specs.Packed.{header_value}
use Rattle.pq_files.specs.Statistics.{Bounds, Statistics}
use Rattle.pq_files.specs.Written.{at_some, statistics_of, statistics_value}
use Rattle.pq_thrift.proofs.Lengths.{most, spell_short, varint_of_32}
use Rattle.pq_thrift.specs.Value.{binary, Fields, no_fields}
use Rattle.pq_thrift.specs.Written.{IsWritten}
use Rattle.pq_tree.specs.declared.version.Version.{Version}
use Rattle.pq_tree.specs.declared.version.Version.TheVariants.{V1, V2}
use Rattle.sample_sizes.proofs.Fitting.{FieldListsFit, ListsFit, spelled_fits}

-- ---- bounds of at most 24 bytes
abbrev pub AreShortBounds : Option Bounds → Type 0
AreShortBounds None = Unit {0}
AreShortBounds (Some b) = (length b.least ≤ 24) × (length b.greatest ≤ 24)

abbrev pub IsShort : Option Statistics → Type 0
IsShort None = Unit {0}
IsShort (Some s) = AreShortBounds s.bounds

-- ---- neither has lists
text_lists : (id : ℕ) (o : Option (List ℕ)) (fs : Fields) → FieldListsFit fs → FieldListsFit (at_some id (option_map binary o) fs)
text_lists id None fs h = h
text_lists id (Some s) fs h = (tt, h)

pub statistics_lists : (id : ℕ) (o : Option Statistics) → FieldListsFit (at_some id (option_map statistics_value (option_map statistics_of o)) no_fields)
statistics_lists id None = tt
statistics_lists id (Some s) = ((tt, text_lists 5 (statistics_of s).max_value _ (text_lists 6 (statistics_of s).min_value no_fields tt)), tt)

header_lists : (version : Version) (p : OutPage) (definition repetition size : ℕ) → ListsFit (header_value version p definition repetition size)
header_lists V1 p definition repetition size = (tt, (tt, (tt, ((tt, (tt, (tt, (tt, statistics_lists 5 p.statistics)))), tt))))
header_lists V2 p definition repetition size = (tt, (tt, (tt, ((tt, (tt, (tt, (tt, (tt, (tt, (tt, statistics_lists 8 p.statistics))))))), tt))))

-- ---- at most so many bytes
header_most : (version : Version) (p : OutPage) (definition repetition size : ℕ) → IsShort p.statistics → most (header_value version p definition repetition size) ≤ 200
header_most V1 p definition repetition size h = by p.statistics refl h
  where
    of : (s : Statistics) → p.statistics ≡ Some s → (b : Option Bounds) → s.bounds ≡ b → AreShortBounds b → most (header_value V1 p definition repetition size) ≤ 200
    of s e None f h = rw (e, f) (omega arith)
    of s e (Some b) f h = rw (e, f) (omega (arith, h.0, h.1, varint_of_32 (length b.least) (omega (arith, h.0)), varint_of_32 (length b.greatest) (omega (arith, h.1))))

    by : (o : Option Statistics) → p.statistics ≡ o → IsShort o → most (header_value V1 p definition repetition size) ≤ 200
    by None e h = rw e (omega arith)
    by (Some s) e h = of s e s.bounds refl h
header_most V2 p definition repetition size h = by p.statistics refl h
  where
    of : (s : Statistics) → p.statistics ≡ Some s → (b : Option Bounds) → s.bounds ≡ b → AreShortBounds b → most (header_value V2 p definition repetition size) ≤ 200
    of s e None f h = rw (e, f) (omega arith)
    of s e (Some b) f h = rw (e, f) (omega (arith, h.0, h.1, varint_of_32 (length b.least) (omega (arith, h.0)), varint_of_32 (length b.greatest) (omega (arith, h.1))))

    by : (o : Option Statistics) → p.statistics ≡ o → IsShort o → most (header_value V2 p definition repetition size) ≤ 200
    by None e h = rw e (omega arith)
    by (Some s) e h = of s e s.bounds refl h

pub header_short : (version : Version) (p : OutPage) (definition repetition size : ℕ) (head : List ℕ) → IsShort p.statistics → IsWritten head (header_value version p definition repetition size) → length head ≤ 200
header_short version p definition repetition size head h w =
    let v = header_value version p definition repetition size in
    omega (arith, ap length w.exact, spell_short v (spelled_fits v head (header_lists version p definition repetition size) w.spells), header_most version p definition repetition size h)

use Rattle.std.proofs.Common.{◌≡◌, take}
use Rattle.levels.specs.Nested.{parts_of}
use Rattle.dictionary_pages.specs.Seen.{seen_parts}
use Rattle.dictionary_pages.proofs.seen_path.merged_path.Given as goal

abbrev pub invariant-loop-part : goal.invariant-loop-part
invariant-loop-part l = parts_of l.path.items ≡ seen_parts l.array (parts_of (take l.part-index l.nested))

use Rattle.std.proofs.Common.{◌≡◌, ◌≤◌, length, drop, sum}
use Rattle.std.specs.Str.{is_utf8}
use Rattle.read_leaf.specs.Strings.{cut_off, is_each, IsText}
use Rattle.read_leaf.proofs.texts.are_boundaries.Given as goal

abbrev pub invariant-loop-length : goal.invariant-loop-length
invariant-loop-length l = record {
  left : sum (drop l.length-index l.lengths) ≤ length l.rest;
  same : is_each is_utf8 (cut_off (drop l.length-index l.lengths) l.rest) ≡ is_each is_utf8 (cut_off l.lengths l.bytes);
  text : IsText l.rest;
}

use Rattle.std.proofs.Common.{◌≡◌, ℕ, List, ◌+◌, ◌-◌, ◌≤◌, ◌++◌}
use Rattle.shredding.specs.Parts.{Part, item_start}
use Rattle.levels.specs.Levels.{bit}
use Rattle.level_sections.specs.Blocks.{flat_level}
use Rattle.level_sections.specs.Definitions.{IsFollowed, IsWindow, list_definitions, listed_from, pending_levels}
use Rattle.level_sections.proofs.items.take_lists.Given as goal

abbrev pub invariant-loop-i : goal.invariant-loop-i
invariant-loop-i g l = record {
  few : l.after.count ≤ 64;
  within : l.i ≤ l.count;
  begun : l.window.first ≤ l.at;
  known : l.at ≤ l.window.end;
  start : l.at ≡ item_start l.list.offsets (l.place + l.i);
  edge : l.edge ≤ l.window.end;
  room : l.edge + l.after.count ≤ l.at + 64;
  followed : IsFollowed l.after l.window l.at;
  levels : (rest : List Part) → (def : ℕ) → IsWindow def (flat_level rest (def + bit l.list.is_optional + 1)) l.window → pending_levels def l.after ≡ pending_levels def l.fn.pending ++ listed_from (list_definitions l.list.is_optional l.list.validity l.list.offsets rest def) l.place l.i;
}

abbrev pub decreases-loop-i : goal.decreases-loop-i
decreases-loop-i g l = l.count - l.i

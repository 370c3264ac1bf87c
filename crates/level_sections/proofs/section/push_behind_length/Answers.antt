use Rattle.std.proofs.Common.{arith, ℕ, ◌≤◌, ◌<◌, ◌+◌, ◌-◌, ◌^◌, ◌≡◌, ◌++◌, [], ◌∷◌, length, map, subst, refl, ap, ◌∙◌}
use Rattle.std.proofs.lemmas.List.{length-append, length-map}
use Rattle.levels.specs.Nested.{part_of, parts_of}
use Rattle.levels.specs.Levels.{path_pairs}
use Rattle.pq_numbers.specs.Bits.{IsWidth}
use Rattle.pq_runs.proofs.Packs.{kept_more}
use Rattle.levels.specs.Stretch.{level_of}
use Rattle.level_sections.proofs.Within.{levels-most, width-most}
use Rattle.level_sections.proofs.Texts.{one_behind, parted, text_small}
use Rattle.level_sections.proofs.section.push_behind_length.Goals as goal

pub overflow_cast-size : goal.overflow_cast-size
overflow_cast-size c =
    let e = c.in_ok-push_runs.ensures.ok in
    let parts = parts_of c.args.nested.now in
    let short : length parts ≤ 128 = rw (length-map c.args.nested.now part_of) c.requires.parts in
    let width = width-most c.args.level parts e.0 c.requires.well short (subst (λ (m : ℕ). IsWidth m e.0) c.requires.max e.1) in
    let few : length (map (level_of c.args.level) (path_pairs parts)) < 2 ^ 30 = rw (length-map (path_pairs parts) (level_of c.args.level)) c.requires.few in
    let small = text_small e.0 c.extend_from_slice.new.self.items c.push_runs.new.buffer.items (map (level_of c.args.level) (path_pairs parts)) width few e.2 in
    let mid : length c.extend_from_slice.new.self.items ≡ length c.args.buffer.now.items + 4 = ap length c.in_ok-extend_from_slice.ensures.items ∙ length-append c.args.buffer.now.items (0 ∷ 0 ∷ 0 ∷ 0 ∷ []) in
    record { fits = omega (arith, small, mid) }

pub returns-clause-ok : goal.returns-clause-ok
returns-clause-ok c =
    let e = c.in_ok-push_runs.ensures.ok in
    let p = c.put_number.ensures c.args.buffer.now.items (0 ∷ 0 ∷ 0 ∷ 0 ∷ []) e.2.text (omega arith) refl (parted c.args.buffer.now.items c.extend_from_slice.new.self.items c.push_runs.new.buffer.items (0 ∷ 0 ∷ 0 ∷ 0 ∷ []) e.2.text c.in_ok-extend_from_slice.ensures.items e.2.parts) in
    one_behind c.args.max e.0 (c.len.result - c.len-at.result) c.args.buffer.now.items c.extend_from_slice.new.self.items c.push_runs.new.buffer.items c.put_number.new.buffer.items (map (level_of c.args.level) (path_pairs (parts_of c.args.nested.now))) (0 ∷ 0 ∷ 0 ∷ 0 ∷ []) p.0 c.requires.some e.1 (levels-most c.args.level (parts_of c.args.nested.now) c.args.max c.requires.max) c.in_ok-extend_from_slice.ensures.items refl e.2 (omega arith) p.1 p.2 p.3

pub returns-clause-kept : goal.returns-clause-kept
returns-clause-kept c =
    let e = c.in_ok-push_runs.ensures.ok in
    let p = c.put_number.ensures c.args.buffer.now.items (0 ∷ 0 ∷ 0 ∷ 0 ∷ []) e.2.text (omega arith) refl (parted c.args.buffer.now.items c.extend_from_slice.new.self.items c.push_runs.new.buffer.items (0 ∷ 0 ∷ 0 ∷ 0 ∷ []) e.2.text c.in_ok-extend_from_slice.ensures.items e.2.parts) in
    kept_more c.args.buffer.now.items c.put_number.new.buffer.items (p.0 ++ e.2.text) p.3

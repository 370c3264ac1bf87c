use Rattle.page_validity.proofs.Given.{bitmap_found, copies_found, skipped_found}
use Rattle.page_validity.proofs.picked.find_part.Goals as goal

pub returns-in-Some-Ok-Skipped-clause-found : goal.returns-in-Some-Ok-Skipped-clause-found
returns-in-Some-Ok-Skipped-clause-found c =
    let i = c.in-Some-Ok-Skipped in
    let g = rw (i.field-0-is, i.field-0-0-is) at i.ensures.steps in
    skipped_found c.args.picked.now.rest c.args.picked.now.parts c.next.new.self i.set c.requires.none g

pub returns-in-Some-Ok-Bitmap-clause-found : goal.returns-in-Some-Ok-Bitmap-clause-found
returns-in-Some-Ok-Bitmap-clause-found c =
    let i = c.in-Some-Ok-Bitmap in
    let g = rw (i.field-0-is, i.field-0-0-is) at i.ensures.steps in
    bitmap_found c.args.picked.now.rest c.args.picked.now.parts c.next.new.self i.values i.offset i.length c.requires.none g

pub returns-in-Some-Ok-Repeated-clause-found : goal.returns-in-Some-Ok-Repeated-clause-found
returns-in-Some-Ok-Repeated-clause-found c =
    let i = c.in-Some-Ok-Repeated in
    let g = rw (i.field-0-is, i.field-0-0-is) at i.ensures.steps in
    copies_found c.args.picked.now.rest c.args.picked.now.parts c.next.new.self i.is_set i.length c.requires.none g

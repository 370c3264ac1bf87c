use Rattle.std.proofs.Common.{arith, inl, inr}
use Rattle.std.proofs.KnownBytes.{Appends-trans}
use Rattle.write_file.proofs.Passed.{dictionary_passes, from_place, whole_passes}
use Rattle.write_file.proofs.Reasons.{last, third}
use Rattle.write_file.proofs.column.push_column.Goals as goal

pub returns-clause-ok : goal.returns-clause-ok
returns-clause-ok g c = λ version l k is gives.
    let d = c.in-Ok.ensures.ok in
    let p = c.in-Ok-push_pages.ensures.ok version l k gives in (
      d.0,
      p.0,
      Appends-trans _ _ _ d.0 p.0 d.1 p.1,
      d.3 l k.entries is,
      p.5,
      omega (arith, c.in-Ok-plus.ensures.ok, c.get.ensures.is, d.2),
      omega (arith, c.in-Ok-plus-2.ensures.ok, c.get-2.ensures.is, p.2),
      p.3,
      p.4,
    )

pub returns-in-Err-clause-refused : goal.returns-in-Err-clause-refused
returns-in-Err-clause-refused g c = last (λ h. (
  h.0,
  λ version l k is gives.
      let t = h.1 l k.entries is in
      dictionary_passes version l k c.args.start t.0 t.1 (omega (arith, t.2)),
)) c.in-Err.ensures.refused

pub returns-in-Err-plus-clause-refused : goal.returns-in-Err-plus-clause-refused
returns-in-Err-plus-clause-refused g c = inr (inr (inl (
  c.in-Err-plus.ensures.err.0,
  λ version l k is gives.
      let d = c.in-Ok.ensures.ok in
      dictionary_passes version l k c.args.start d.0 (d.3 l k.entries is) (omega (arith, c.in-Err-plus.ensures.err.1, c.get.ensures.is, d.2)),
)))

pub returns-in-Err-push_pages-clause-refused : goal.returns-in-Err-push_pages-clause-refused
returns-in-Err-push_pages-clause-refused g c = third (λ h. (
  h.0,
  λ version l k is gives.
      let d = c.in-Ok.ensures.ok in
      from_place version l k c.args.start (h.1 version l k d.0 gives (d.3 l k.entries is)),
)) c.in-Err-push_pages.ensures.refused

pub returns-in-Err-plus-2-clause-refused : goal.returns-in-Err-plus-2-clause-refused
returns-in-Err-plus-2-clause-refused g c = inr (inr (inl (
  c.in-Err-plus-2.ensures.err.0,
  λ version l k is gives.
      let d = c.in-Ok.ensures.ok in
      let p = c.in-Ok-push_pages.ensures.ok version l k gives in
      whole_passes version l k c.args.start d.0 p.0 (d.3 l k.entries is) p.5 (omega (arith, c.in-Err-plus-2.ensures.err.1, c.get-2.ensures.is, p.2, c.in-Ok-plus.ensures.ok, c.get.ensures.is, d.2)),
)))

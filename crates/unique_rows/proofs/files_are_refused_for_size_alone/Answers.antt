use Rattle.unique_rows.proofs.Refused.{refused_for_size}
use Rattle.unique_rows.proofs.files_are_refused_for_size_alone.Goals as goal

pub returns : goal.returns
returns c = refused_for_size c.rows_decide.ensures c.fitting_fields_agree.ensures c.passed_is_not_refused.ensures

use Rattle.unique_rows.proofs.files_are_valid.Goals as goal

pub returns : goal.returns
returns c = λ style version codec asked s rowss bytes settled some told file small none. (some, small, λ e h. none e (c.files_are_refused_for_size_alone.ensures style version codec asked s rowss bytes e settled some told file h))

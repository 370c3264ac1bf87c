-- The pages that an iterator is still to give.
use Rattle.write_pages.specs.declared.pages.PageIter.{PageIter}
use Rattle.write_pages.specs.declared.pages.PageIter.TheVariants.{Leaf, Dictionary}
use Rattle.write_pages.specs.Holds.{ToGive, dictionary_to_give, leaf_to_give}

abbrev pub to_give : PageIter → ToGive
to_give (Leaf s) = leaf_to_give s
to_give (Dictionary s) = dictionary_to_give s

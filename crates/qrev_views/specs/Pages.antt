-- Pages of lists.
use Rattle.std.specs.Prelude.{List, take, drop}
use Rattle.qrev_views.specs.declared.variable.Page.{Page}

-- the items of a list that a page shows
abbrev pub page_of : {X : Type 0} → Page → List X → List X
page_of page items = take page.count (drop page.start items)

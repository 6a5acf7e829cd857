-- The filter that a draft or a sealed filter is.
use Rattle.filter.specs.declared.draft.Draft.{Draft}
use Rattle.filter.specs.declared.sealed.Sealed.{Sealed}
use Rattle.filter.specs.Views.{View, view_of}

abbrev pub draft_view : {R A : Type 0} → A → Draft R A → View R A
draft_view reject d = view_of reject d.places.now d.count

abbrev pub sealed_view : {R A : Type 0} → A → Sealed R A → View R A
sealed_view reject s = view_of reject s.places.now s.count

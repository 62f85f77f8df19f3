-- What the code's figures stand for: a number on the page or a dash, and a sheet's wear.
use Rattle.std.specs.Prelude.{List, ℕ, Option, None, Some}
use Rattle.sheet.specs.Sheet.{Wear, none, some}
use Rattle.page.specs.declared.Worn.{Worn}
use Rattle.page.specs.Page.{number, dash}

abbrev pub figure_of : Option ℕ → List ℕ
figure_of None = dash
figure_of (Some v) = number v

abbrev pub seen : Option Worn → Wear
seen None = none
seen (Some w) = some w.least w.most w.mean w.rest

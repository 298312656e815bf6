-- A page: a text that lines are written behind, or a blank one, on which nothing is ever written.
use Rattle.std.specs.Prelude.{ℕ, List, [], ◌++◌, Bool, true, false, if◌then◌else◌}

pub record Page : Type 0 where
  pub text : List ℕ
  pub blank : Bool

-- a page with this text, and one that stays blank
abbrev pub page_of : List ℕ → Page
page_of text = record { text = text; blank = false }

abbrev pub blank_page : Page
blank_page = record { text = []; blank = true }

-- a page on which lines are written
unfoldable pub written : Page → (lines : List ℕ) → Page
written p lines = record { text = if p.blank then p.text else p.text ++ lines; blank = p.blank }

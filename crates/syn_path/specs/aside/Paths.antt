-- Paths and macro calls without their spans.
use Rattle.std.specs.Prelude.{option_map}
use Rattle.token_core.specs.Same.{bare_stream}
use Rattle.syn_path.specs.declared.mac.Macro.{Macro}
use Rattle.syn_path.specs.declared.mac.MacroDelimiter.{MacroDelimiter}
use Rattle.syn_path.specs.declared.mac.MacroDelimiter.TheVariants as m
use Rattle.syn_path.specs.declared.path.PathOf.{PathOf}
use Rattle.syn_path.specs.declared.path.PathSegmentOf.{PathSegmentOf}
use Rattle.syn_path.specs.mac.Macros.{macro_of}
use Rattle.syn_path.specs.path.Paths.{ModPath, path_of, segment_of}
use Rattle.syn_path.specs.aside.Tokens.{ident, mark, many, paren, brace, bracket}

-- a path whose arguments are so
module _ {A : Type 0} (arguments : A → A) where
  abbrev pub segment : PathSegmentOf A → PathSegmentOf A
  segment x = segment_of (arguments x.arguments) (ident x.ident)

  abbrev pub path : PathOf A → PathOf A
  path x = path_of (option_map mark x.leading_colon) (many segment mark x.segments)

abbrev pub mod_path : ModPath → ModPath
mod_path = path (λ a. a)

abbrev pub delimiter : MacroDelimiter → MacroDelimiter
delimiter (m.Paren x) = m.Paren (paren x)
delimiter (m.Brace x) = m.Brace (brace x)
delimiter (m.Bracket x) = m.Bracket (bracket x)

abbrev pub mac : Macro → Macro
mac x = macro_of (mod_path x.path) (mark x.bang_token) (delimiter x.delimiter, bare_stream x.tokens)

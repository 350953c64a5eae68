use Rattle.std.proofs.Common.{◌≡◌, ◌∷◌, ◌++◌, [], map, reverse, List, ap, sym, ◌∙◌, rules}
use Rattle.token_core.specs.Levels.{front, tokens, pending, tree_tokens}
use Rattle.token_core.specs.Trees.{content_of}
use Rattle.token_core.specs.declared.tree.TokenTree.{TokenTree}
use Rattle.token_core.proofs.Nestings.{ident_front, punct_front, literal_front, group_front, behind}
use Rattle.token_core.proofs.levels.Walk.enter.Goals as goal

pub returns-in_ok-push-in-Group : goal.returns-in_ok-push-in-Group
returns-in_ok-push-in-Group c =
    let g = c.in-Group.group in
    let old = c.self.inside.after.items in
    let rest = c.self.inside.rest in
    let p : c.push.new.self.items ≡ old ++ rest ∷ [] = search rules in
    let s : c.trees-self-inside.result.now ≡ content_of g = c.trees-self-inside.ensures ∙ c.stream.ensures in
    ap (λ z. front c.args.tree.now ∷ (tokens z ++ pending (map (λ r. r.now) (reverse c.push.new.self.items)))) s
    ∙ ap (λ z. front c.args.tree.now ∷ (tokens (content_of g) ++ pending (map (λ r. r.now) (reverse z)))) p
    ∙ ap (λ z. front c.args.tree.now ∷ (tokens (content_of g) ++ pending z)) (behind (λ r. r.now) old rest)
    ∙ group_front c.args.tree.now g rest.now (map (λ r. r.now) (reverse old)) c.in-Group.is
    ∙ ap (λ z. tree_tokens c.args.tree.now ++ z) c.self.view_is

pub returns-in-Ident : goal.returns-in-Ident
returns-in-Ident c = ident_front c.args.tree.now c.in-Ident.field-0 c.args.self.now c.in-Ident.is

pub returns-in-Punct : goal.returns-in-Punct
returns-in-Punct c = punct_front c.args.tree.now c.in-Punct.field-0 c.args.self.now c.in-Punct.is

pub returns-in-Literal : goal.returns-in-Literal
returns-in-Literal c = literal_front c.args.tree.now c.in-Literal.field-0 c.args.self.now c.in-Literal.is

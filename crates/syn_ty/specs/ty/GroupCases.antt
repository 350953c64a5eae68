-- What a read at an invisible group answers, whatever list stands there, by the reads of what follows the group: each case leaves no other.
use Rattle.std.specs.Prelude.{◌≡◌, true, false, ◌&&◌, [], Some, None, Ok}
use Rattle.syn_forms.specs.declared.places.TypePlace.TheVariants.{Plus}
use Rattle.syn_forms.specs.groups.Reading.{in_invisible}
use Rattle.syn_forms.specs.paths.Reading as paths
use Rattle.syn_path.specs.declared.path.PathStyle.TheVariants.{AsWritten}
use Rattle.syn_ty.specs.declared.ty.TypeOf.TheVariants as v
use Rattle.syn_ty.specs.path.Reading.{path, rest}
use Rattle.syn_ty.specs.ty.Groups.{takes_arguments}
use Rattle.syn_ty.specs.ty.Points.{Readers, a_type, some_arguments}
use Rattle.syn_ty.specs.ty.Reading.{as_path, has_arguments, path_within, qself_in, sees_further_arguments, sees_further_segment, with_path}
use Rattle.syn_ty.specs.ty.Trees.{Path, PathArguments, TypePath, TypeTree}
use Rattle.syn_ty.specs.ty.Types.{group_with, qualified_with}
use Rattle.token_core.specs.declared.token.GroupToken.{GroupToken}
use Rattle.token_core.specs.Stream.{Stream}

module _ {A E : Type 0} (r : Readers A E) where
  -- The type x in a group, where the stream stands after the group: the answer, and where the stream then stands.
  pub data ReadsOn (g : GroupToken) (x : TypeTree A E) (s : Stream) : TypeTree A E → Stream → Type 0 where
    -- `::` and an identifier follow a path: it goes on with these segments
    segments : {p : TypePath A E} {q : Path A E} {t : Stream} → sees_further_segment s.rest ≡ true → as_path x ≡ Some p →
        rest r (path_within p) s ≡ Ok (q, t) → ReadsOn g x s (v.Path (with_path p q)) t
    -- they follow another type: it qualifies the path which they begin
    qualifies : {q : Path A E} {t : Stream} → sees_further_segment s.rest ≡ true → as_path x ≡ None →
        path r AsWritten s ≡ Ok (q, t) → ReadsOn g x s (v.Path (qualified_with [] (Some (qself_in g x)) q)) t
    -- `<`, or `::` and `<`, follow a path whose last segment has no arguments: it takes them, and goes on
    arguments : {p : TypePath A E} {a : PathArguments A E} {q : Path A E} {m t : Stream} → sees_further_segment s.rest ≡ false → sees_further_arguments s.rest ≡ true →
        as_path x ≡ Some p → has_arguments (path_within p) ≡ false → r some_arguments s ≡ Ok (a, m) → rest r (paths.path_with a (path_within p)) m ≡ Ok (q, t) →
        ReadsOn g x s (v.Path (with_path p q)) t
    -- else the group is a type of its own
    alone : sees_further_segment s.rest ≡ false → (sees_further_arguments s.rest && takes_arguments (as_path x)) ≡ false → ReadsOn g x s (v.Group (group_with [] g x)) s

  -- A type read at an invisible group: the type that the group holds goes on.
  pub data IsReadGrouped (s : Stream) : TypeTree A E → Stream → Type 0 where
    grouped : {g : GroupToken} {x y : TypeTree A E} {m t : Stream} → in_invisible (r (a_type Plus)) s ≡ Ok ((g, x), m) → ReadsOn g x m y t → IsReadGrouped s y t

-- `lay::lay_out` meets its contract. Assumes nothing.
use mathlib.Core.Path.{refl}
use Rattle.walk.proofs.Chains.{linked_none}
use Rattle.walk.proofs.Lays.{tree_room, tree_laid}
use Rattle.walk.proofs.lay.lay_out.Goals as goal

pub hang-requires : goal.hang-requires
hang-requires c = linked_none refl refl c.args.library.now.is_count

pub lay-requires : goal.lay-requires
lay-requires c = let l = c.args.library.now in tree_room l.root l.library c.hang.ensures l.is_root c.requires

pub returns : goal.returns
returns c = let l = c.args.library.now in tree_laid l.root l.library c.hang.ensures l.is_root c.requires l.is_count c.lay.ensures

-- Open without them: the length that each part asks, and each command by its law.
use Rattle.metadata.specs.declared.Command.TheVariants.{Naming as naming, Registering as registering, Lifecycle as lifecycle, Tablet as tablet, Placement as placement, Retirement as retirement, Picking as picking}
use Rattle.commits.proofs.Blocks.{sound_long, naming_left, registering_left, lifecycle_left, tablet_left, placement_left, retirement_left, picking_left, by_form}
use Rattle.commits.proofs.commit.Goals as goal

pub name_cluster-requires : goal.name_cluster-requires
name_cluster-requires c = sound_long c.args.block.now c.requires.sounds

pub returns-in-Naming : goal.returns-in-Naming
returns-in-Naming c =
    by_form c.args.block.now c.name_cluster.new.block c.args.c.now (naming c.in-Naming.t) c.in-Naming.is (λ a. naming_left c.args.block.now c.name_cluster.new.block c.requires.sounds c.in-Naming.t a c.name_cluster.ensures) c.requires.applied

pub register_in-requires : goal.register_in-requires
register_in-requires c = sound_long c.args.block.now c.requires.sounds

pub returns-in-Registering : goal.returns-in-Registering
returns-in-Registering c =
    by_form c.args.block.now c.register_in.new.block c.args.c.now (registering c.in-Registering.n) c.in-Registering.is (λ a. registering_left c.args.block.now c.register_in.new.block c.requires.sounds c.in-Registering.n a c.register_in.ensures) c.requires.applied

pub advance_in-requires : goal.advance_in-requires
advance_in-requires c = sound_long c.args.block.now c.requires.sounds

pub returns-in-Lifecycle : goal.returns-in-Lifecycle
returns-in-Lifecycle c =
    by_form c.args.block.now c.advance_in.new.block c.args.c.now (lifecycle c.in-Lifecycle.k c.in-Lifecycle.to) c.in-Lifecycle.is (λ a. lifecycle_left c.args.block.now c.advance_in.new.block c.requires.sounds c.in-Lifecycle.k c.in-Lifecycle.to a c.advance_in.ensures) c.requires.applied

pub add_tablet_in-requires : goal.add_tablet_in-requires
add_tablet_in-requires c = sound_long c.args.block.now c.requires.sounds

pub returns-in-Tablet : goal.returns-in-Tablet
returns-in-Tablet c =
    by_form c.args.block.now c.add_tablet_in.new.block c.args.c.now (tablet c.in-Tablet.t) c.in-Tablet.is (λ a. tablet_left c.args.block.now c.add_tablet_in.new.block c.requires.sounds c.in-Tablet.t a c.add_tablet_in.ensures) c.requires.applied

pub put_placement_in-requires : goal.put_placement_in-requires
put_placement_in-requires c = sound_long c.args.block.now c.requires.sounds

pub returns-in-Placement : goal.returns-in-Placement
returns-in-Placement c =
    by_form c.args.block.now c.put_placement_in.new.block c.args.c.now (placement c.in-Placement.p) c.in-Placement.is (λ a. placement_left c.args.block.now c.put_placement_in.new.block c.requires.sounds c.in-Placement.p a c.put_placement_in.ensures) c.requires.applied

pub add_retirement_in-requires : goal.add_retirement_in-requires
add_retirement_in-requires c = sound_long c.args.block.now c.requires.sounds

pub returns-in-Retirement : goal.returns-in-Retirement
returns-in-Retirement c =
    by_form c.args.block.now c.add_retirement_in.new.block c.args.c.now (retirement c.in-Retirement.x) c.in-Retirement.is (λ a. retirement_left c.args.block.now c.add_retirement_in.new.block c.requires.sounds c.in-Retirement.x a c.add_retirement_in.ensures) c.requires.applied

pub returns-in-Picking : goal.returns-in-Picking
returns-in-Picking c = by_form c.args.block.now c.args.block.now c.args.c.now picking c.in-Picking.is (λ a. picking_left c.args.block.now c.requires.sounds) c.requires.applied

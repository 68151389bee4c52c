-- Open without them: that what was judged are the rows of the block, by one law for each command.
use Rattle.steps.proofs.Judging.{registering_judged, lifecycle_judged, placement_judged, retirement_judged, picking_judged}
use Rattle.steps.proofs.judge.Goals as goal

pub returns-in-Registering : goal.returns-in-Registering
returns-in-Registering c =
    registering_judged c.args.block.now c.directory-shared.result.now c.catalog-own.result.now c.directory-shared.ensures.part c.catalog-own.ensures.part c.args.c.now c.judge_registering.result _ _ c.tablets.ensures.rows c.placements.ensures.rows _ c.nodes.ensures.rows c.in-Registering.n c.in-Registering.is c.judge_registering.ensures

pub returns-in-Lifecycle : goal.returns-in-Lifecycle
returns-in-Lifecycle c =
    lifecycle_judged c.args.block.now c.directory-shared.result.now c.catalog-own.result.now c.directory-shared.ensures.part c.catalog-own.ensures.part c.args.c.now c.judge_lifecycle.result _ _ c.tablets-in-Lifecycle.ensures.rows c.placements-in-Lifecycle.ensures.rows _ c.nodes-in-Lifecycle.ensures.rows c.in-Lifecycle.k c.in-Lifecycle.to c.in-Lifecycle.is c.judge_lifecycle.ensures

pub returns-in-Placement : goal.returns-in-Placement
returns-in-Placement c =
    placement_judged c.args.block.now c.directory-shared.result.now c.catalog-own.result.now c.directory-shared.ensures.part c.catalog-own.ensures.part c.args.c.now c.judge_placement.result _ _ c.tablets-in-Placement.ensures.rows c.placements-in-Placement.ensures.rows _ c.retirements.ensures.rows _ c.nodes-in-Placement.ensures.rows c.in-Placement.p c.in-Placement.is c.judge_placement.ensures

pub returns-in-Retirement : goal.returns-in-Retirement
returns-in-Retirement c =
    retirement_judged c.args.block.now c.directory-shared.result.now c.catalog-own.result.now c.directory-shared.ensures.part c.catalog-own.ensures.part c.args.c.now c.judge_retirement.result _ _ c.tablets-in-Retirement.ensures.rows c.placements-in-Retirement.ensures.rows _ c.retirements-in-Retirement.ensures.rows c.in-Retirement.x c.in-Retirement.is c.judge_retirement.ensures

pub returns-in-Picking : goal.returns-in-Picking
returns-in-Picking c =
    picking_judged c.args.block.now c.directory-shared.result.now c.catalog-own.result.now c.directory-shared.ensures.part c.catalog-own.ensures.part c.args.c.now _ c.nodes-in-Picking.ensures.rows c.judge_picking.result c.in-Picking.is (c.judge_picking.ensures.answer, c.judge_picking.ensures.refused)

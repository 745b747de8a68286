-- Each group's maker takes the frames, and makes the node's picture.
use Rattle.std.proofs.Common.{◌∙◌, sym, ap, length, arith}
use Rattle.clip_term.specs.Terms.{act_of, plain, time, space, joined, soft, fields, choice}
use Rattle.clip_term.specs.Choice.{run_act}
use Rattle.clip_graph.specs.Plan.{Application, application_at, infos_at}
use Rattle.serve_worker.proofs.MakeLemmas.{can_make, makes, plain_legal, plain_made, time_made, space_accepted, space_legal, space_made, join_ready, join_made, soft_ready, soft_made, field_ready, field_made, choice_ready, choice_made}
use Rattle.clip_frames.proofs.NodeLemmas.{is_node, first_info}
use Rattle.serve_worker.proofs.make.make_frame.Goals as goal

pub blank-requires : goal.blank-requires
blank-requires c =
    let plan = c.args.graph.now in
    let key = c.args.key in
    let w = c.in-Blank in
    let act = sym (ap act_of w.is) ∙ ap (λ (a : Application). a.act) c.node-node.ensures in
    let can = can_make plan key (plain w.info w.colour) c.args.frames.now c.len.ensures.plan c.requires.key.node c.requires.shapes act in
    plain_legal w.info w.colour (infos_at plan key.node) (application_at plan key.node).info can.sound can.lawful can.told

pub returns-in-Blank : goal.returns-in-Blank
returns-in-Blank c =
    let plan = c.args.graph.now in
    let key = c.args.key in
    let frames = c.args.frames.now in
    let w = c.in-Blank in
    let act = sym (ap act_of w.is) ∙ ap (λ (a : Application). a.act) c.node-node.ensures in
    let can = can_make plan key (plain w.info w.colour) frames c.len.ensures.plan c.requires.key.node c.requires.shapes act in
    let m = makes plan key (plain w.info w.colour) frames c.blank.result _ act c.blank.ensures (plain_made w.info w.colour (infos_at plan key.node) (application_at plan key.node).info key.n frames can.told) in
    record { made = m.made; shape = m.shape }

pub returns-in-Time : goal.returns-in-Time
returns-in-Time c =
    let plan = c.args.graph.now in
    let key = c.args.key in
    let frames = c.args.frames.now in
    let op = c.in-Time.field-0 in
    let frame = c.index-frames-0 in
    let act = sym (ap act_of c.in-Time.is) ∙ ap (λ (a : Application). a.act) c.node-node.ensures in
    let can = can_make plan key (time op) frames c.len.ensures.plan c.requires.key.node c.requires.shapes act in
    let m = makes plan key (time op) frames c.shown.result frame.result act c.shown.ensures.frame
    (time_made op (infos_at plan key.node) (application_at plan key.node).info key.n frames frame.result can.sound can.lawful can.told can.shapes c.shown.ensures.whole frame.is) in
    record { made = m.made; shape = m.shape }

pub make_space_in-requires-clause-accepted : goal.make_space_in-requires-clause-accepted
make_space_in-requires-clause-accepted c =
    let plan = c.args.graph.now in
    let key = c.args.key in
    let frames = c.args.frames.now in
    let op = c.in-Space.op in
    let frame = c.index-frames-0-in-Space in
    let act = sym (ap act_of c.in-Space.is) ∙ ap (λ (a : Application). a.act) c.node-node.ensures in
    let can = can_make plan key (space op) frames c.len.ensures.plan c.requires.key.node c.requires.shapes act in
    space_accepted op (infos_at plan key.node) (application_at plan key.node).info key.n frames frame.result can.told can.shapes frame.is

pub make_space_in-requires-clause-legal : goal.make_space_in-requires-clause-legal
make_space_in-requires-clause-legal c =
    let plan = c.args.graph.now in
    let key = c.args.key in
    let frames = c.args.frames.now in
    let op = c.in-Space.op in
    let frame = c.index-frames-0-in-Space in
    let act = sym (ap act_of c.in-Space.is) ∙ ap (λ (a : Application). a.act) c.node-node.ensures in
    let can = can_make plan key (space op) frames c.len.ensures.plan c.requires.key.node c.requires.shapes act in
    space_legal op (infos_at plan key.node) (application_at plan key.node).info key.n frames frame.result can.sound can.lawful can.told can.shapes frame.is

pub returns-in-Space : goal.returns-in-Space
returns-in-Space c =
    let plan = c.args.graph.now in
    let key = c.args.key in
    let frames = c.args.frames.now in
    let op = c.in-Space.op in
    let frame = c.index-frames-0-in-Space in
    let act = sym (ap act_of c.in-Space.is) ∙ ap (λ (a : Application). a.act) c.node-node.ensures in
    let can = can_make plan key (space op) frames c.len.ensures.plan c.requires.key.node c.requires.shapes act in
    let m = makes plan key (space op) frames c.make_space_in.result _ act c.make_space_in.ensures
    (space_made op (infos_at plan key.node) (application_at plan key.node).info key.n frames frame.result can.told can.shapes frame.is) in
    record { made = m.made; shape = m.shape }

pub make_join_in-requires : goal.make_join_in-requires
make_join_in-requires c =
    let plan = c.args.graph.now in
    let key = c.args.key in
    let frames = c.args.frames.now in
    let op = c.in-Join.op in
    let act = sym (ap act_of c.in-Join.is) ∙ ap (λ (a : Application). a.act) c.node-node.ensures in
    let can = can_make plan key (joined op) frames c.len.ensures.plan c.requires.key.node c.requires.shapes act in
    join_ready op (infos_at plan key.node) (application_at plan key.node).info key.n frames can.sound can.lawful can.told can.shapes

pub returns-in-Join : goal.returns-in-Join
returns-in-Join c =
    let plan = c.args.graph.now in
    let key = c.args.key in
    let frames = c.args.frames.now in
    let op = c.in-Join.op in
    let act = sym (ap act_of c.in-Join.is) ∙ ap (λ (a : Application). a.act) c.node-node.ensures in
    let can = can_make plan key (joined op) frames c.len.ensures.plan c.requires.key.node c.requires.shapes act in
    let m = makes plan key (joined op) frames c.make_join_in.result _ act c.make_join_in.ensures
    (join_made op (infos_at plan key.node) (application_at plan key.node).info key.n frames can.told can.shapes) in
    record { made = m.made; shape = m.shape }

pub mixed-requires : goal.mixed-requires
mixed-requires c =
    let plan = c.args.graph.now in
    let key = c.args.key in
    let frames = c.args.frames.now in
    let op = c.in-Soft.op in
    let act = sym (ap act_of c.in-Soft.is) ∙ ap (λ (a : Application). a.act) c.node-node.ensures in
    let can = can_make plan key (soft op) frames c.len.ensures.plan c.requires.key.node c.requires.shapes act in
    soft_ready op (infos_at plan key.node) (application_at plan key.node).info key.n frames can.sound can.told can.shapes

pub returns-in-Soft : goal.returns-in-Soft
returns-in-Soft c =
    let plan = c.args.graph.now in
    let key = c.args.key in
    let frames = c.args.frames.now in
    let op = c.in-Soft.op in
    let act = sym (ap act_of c.in-Soft.is) ∙ ap (λ (a : Application). a.act) c.node-node.ensures in
    let can = can_make plan key (soft op) frames c.len.ensures.plan c.requires.key.node c.requires.shapes act in
    let m = makes plan key (soft op) frames c.mixed.result _ act c.mixed.ensures
    (soft_made op (infos_at plan key.node) (application_at plan key.node).info key.n frames can.told can.shapes) in
    record { made = m.made; shape = m.shape }

pub index-requires : goal.index-requires
index-requires c =
    let plan = c.args.graph.now in
    let key = c.args.key in
    let act = sym (ap act_of c.in-Field.is) ∙ ap (λ (a : Application). a.act) c.node-node.ensures in
    let can = can_make plan key (fields c.in-Field.op) c.args.frames.now c.len.ensures.plan c.requires.key.node c.requires.shapes act in
    let one = can.sound in
    omega (arith, one, (is_node plan key.node c.len.ensures.plan c.requires.key.node).count, ap (λ (a : Application). length a.inputs) c.node-node.ensures, c.node-node.result.now.inputs.ok.0)

pub make_field-requires : goal.make_field-requires
make_field-requires c =
    let plan = c.args.graph.now in
    let key = c.args.key in
    let frames = c.args.frames.now in
    let op = c.in-Field.op in
    let act = sym (ap act_of c.in-Field.is) ∙ ap (λ (a : Application). a.act) c.node-node.ensures in
    let can = can_make plan key (fields op) frames c.len.ensures.plan c.requires.key.node c.requires.shapes act in
    field_ready op (infos_at plan key.node) (application_at plan key.node).info key.n frames can.sound can.lawful can.told can.shapes

pub returns-in-Field : goal.returns-in-Field
returns-in-Field c =
    let plan = c.args.graph.now in
    let key = c.args.key in
    let frames = c.args.frames.now in
    let op = c.in-Field.op in
    let act = sym (ap act_of c.in-Field.is) ∙ ap (λ (a : Application). a.act) c.node-node.ensures in
    let can = can_make plan key (fields op) frames c.len.ensures.plan c.requires.key.node c.requires.shapes act in
    let m = makes plan key (fields op) frames c.make_field.result _ act c.make_field.ensures
    (field_made op (infos_at plan key.node) (application_at plan key.node).info c.node.result.now.info key.n frames (first_info plan key.node c.len.ensures.plan c.requires.key.node (let one = can.sound in omega arith) _ _ _ (ap (λ (a : Application). a.inputs) c.node-node.ensures) c.index.ensures (ap (λ (a : Application). a.info) c.node.ensures)) can.told can.shapes) in
    record { made = m.made; shape = m.shape }

pub make_run-requires : goal.make_run-requires
make_run-requires c =
    let plan = c.args.graph.now in
    let key = c.args.key in
    let frames = c.args.frames.now in
    let op = run_act c.in-Run.op in
    let act = sym (ap act_of c.in-Run.is) ∙ ap (λ (a : Application). a.act) c.node-node.ensures in
    let can = can_make plan key (choice op) frames c.len.ensures.plan c.requires.key.node c.requires.shapes act in
    choice_ready op (infos_at plan key.node) key.n frames can.sound can.shapes

pub returns-in-Run : goal.returns-in-Run
returns-in-Run c =
    let plan = c.args.graph.now in
    let key = c.args.key in
    let frames = c.args.frames.now in
    let op = run_act c.in-Run.op in
    let act = sym (ap act_of c.in-Run.is) ∙ ap (λ (a : Application). a.act) c.node-node.ensures in
    let can = can_make plan key (choice op) frames c.len.ensures.plan c.requires.key.node c.requires.shapes act in
    let m = makes plan key (choice op) frames c.make_run.result _ act c.make_run.ensures.made
    (choice_made op (infos_at plan key.node) (application_at plan key.node).info key.n frames can.sound can.told can.shapes c.make_run.ensures.whole) in
    record { made = m.made; shape = m.shape }

-- What the taking of one instance leaves is a lemma on tables. Of an instance that is no source the numbers stay.
use Rattle.std.proofs.Common.{◌≡◌, ◌-◌, length, refl, ap, ◌∙◌, arith}
use Rattle.inst_table.proofs.CallerLemmas.{fewer_left}
use Rattle.serve_worker.specs.Furnishing.{source_of}
use Rattle.serve_worker.specs.Instances.{faults_of}
use Rattle.serve_app.proofs.ClosingLemmas.{taken_none, taken_more, given_all, counts_all, none_left}
use Rattle.serve_app.proofs.closing.close_table.Goals as goal

pub loop-instance-init : goal.loop-instance-init
loop-instance-init g c = record {
  taken = taken_none g.H.Src.Source c.args.table (g.H.HeldFiles.given c.args.files.now) (g.H.HeldFiles.faults c.args.files.now) c.requires.free;
  fetched = refl;
  world = refl;
  borrow = refl;
}

pub loop-instance-smaller-in-Source : goal.loop-instance-smaller-in-Source
loop-instance-smaller-in-Source g c =
    let fewer = fewer_left c.loop-instance.table c.take_any.new.self c.in-Some.instance c.in-Some.ensures.some in omega arith

pub loop-instance-preserved-in-Source : goal.loop-instance-preserved-in-Source
loop-instance-preserved-in-Source g c =
    let one : length (source_of c.in-Some.instance) ≡ 1 = rw c.in-Source.is refl in
    let given : g.H.HeldFiles.given c.close.new.self ≡ g.H.HeldFiles.given c.loop-instance.files - length (source_of c.in-Some.instance) =
    rw one c.close.ensures.given in
    let same : g.H.Src.Source.faults c.into_source.result ≡ faults_of g.H.Src.Source c.in-Some.instance =
    rw c.in-Source.is (ap g.H.Src.Source.faults c.into_source.ensures) in
    let counts = rw same at c.close.ensures.faults in
    record {
      taken = taken_more g.H.Src.Source c.args.table (g.H.HeldFiles.given c.args.files.now) (g.H.HeldFiles.faults c.args.files.now)
          c.loop-instance.table c.take_any.new.self c.in-Some.instance
          (g.H.HeldFiles.given c.loop-instance.files) (g.H.HeldFiles.faults c.loop-instance.files)
          (g.H.HeldFiles.given c.close.new.self) (g.H.HeldFiles.faults c.close.new.self)
          c.loop-instance.invariant.taken c.in-Some.ensures.some given counts;
      fetched = cc;
      world = cc;
      borrow = cc;
    }

pub loop-instance-smaller-in-Scratch : goal.loop-instance-smaller-in-Scratch
loop-instance-smaller-in-Scratch g c =
    let fewer = fewer_left c.loop-instance.table c.take_any.new.self c.in-Some.instance c.in-Some.ensures.some in omega arith

pub loop-instance-preserved-in-Scratch : goal.loop-instance-preserved-in-Scratch
loop-instance-preserved-in-Scratch g c =
    let none : length (source_of c.in-Some.instance) ≡ 0 = rw c.in-Scratch.is refl in
    let faultless : faults_of g.H.Src.Source c.in-Some.instance ≡ 0 = rw c.in-Scratch.is refl in
    record {
      taken = taken_more g.H.Src.Source c.args.table (g.H.HeldFiles.given c.args.files.now) (g.H.HeldFiles.faults c.args.files.now)
          c.loop-instance.table c.take_any.new.self c.in-Some.instance
          (g.H.HeldFiles.given c.loop-instance.files) (g.H.HeldFiles.faults c.loop-instance.files)
          (g.H.HeldFiles.given c.loop-instance.files) (g.H.HeldFiles.faults c.loop-instance.files)
          c.loop-instance.invariant.taken c.in-Some.ensures.some (omega arith) (omega (arith, faultless));
      fetched = c.loop-instance.invariant.fetched;
      world = c.loop-instance.invariant.world;
      borrow = c.loop-instance.invariant.borrow;
    }

pub loop-instance-smaller : goal.loop-instance-smaller
loop-instance-smaller g c =
    let fewer = fewer_left c.loop-instance.table c.take_any.new.self c.in-Some.instance c.in-Some.ensures.some in omega arith

pub loop-instance-preserved : goal.loop-instance-preserved
loop-instance-preserved g c =
    let none : length (source_of c.in-Some.instance) ≡ 0 = rw c.in-Plain.is refl in
    let faultless : faults_of g.H.Src.Source c.in-Some.instance ≡ 0 = rw c.in-Plain.is refl in
    record {
      taken = taken_more g.H.Src.Source c.args.table (g.H.HeldFiles.given c.args.files.now) (g.H.HeldFiles.faults c.args.files.now)
          c.loop-instance.table c.take_any.new.self c.in-Some.instance
          (g.H.HeldFiles.given c.loop-instance.files) (g.H.HeldFiles.faults c.loop-instance.files)
          (g.H.HeldFiles.given c.loop-instance.files) (g.H.HeldFiles.faults c.loop-instance.files)
          c.loop-instance.invariant.taken c.in-Some.ensures.some (omega arith) (omega (arith, faultless));
      fetched = c.loop-instance.invariant.fetched;
      world = c.loop-instance.invariant.world;
      borrow = c.loop-instance.invariant.borrow;
    }

pub destroy_empty-requires : goal.destroy_empty-requires
destroy_empty-requires g c = c.in_default.ensures.kept ∙ none_left c.loop-instance.table c.loop-instance.invariant.taken.free c.in_default.ensures.none

pub returns-clause-given : goal.returns-clause-given
returns-clause-given g c = given_all g.H.Src.Source c.args.table (g.H.HeldFiles.given c.args.files.now) (g.H.HeldFiles.faults c.args.files.now)
    c.loop-instance.table (g.H.HeldFiles.given c.loop-instance.files) (g.H.HeldFiles.faults c.loop-instance.files) c.loop-instance.invariant.taken c.in_default.ensures.none

pub returns-clause-faults : goal.returns-clause-faults
returns-clause-faults g c = counts_all g.H.Src.Source c.args.table (g.H.HeldFiles.given c.args.files.now) (g.H.HeldFiles.faults c.args.files.now)
    c.loop-instance.table (g.H.HeldFiles.given c.loop-instance.files) (g.H.HeldFiles.faults c.loop-instance.files) c.loop-instance.invariant.taken c.in_default.ensures.none

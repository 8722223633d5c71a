use Rattle.std.proofs.Common.{◌∙◌, arith, map, string_bytes}
use Rattle.linker_config.specs.Folder.{services_told}
use Rattle.linker_config.proofs.Loads.{refused_cause, told_end, told_next, told_refused}
use Rattle.linker_config.proofs.folder.load_names.Goals as goal

pub loop-name-preserved : goal.loop-name-preserved
loop-name-preserved g c =
    let inv = c.loop-name.invariant in
    record {
      files = c.in-Ok.ensures.files ∙ inv.files;
      faults = c.in-Ok.ensures.cause.count ∙ inv.faults;
      told = λ files is.
          told_next (λ n. string_bytes n) files c.args.root.now c.args.names.now
          c.loop-name.name-index
          (services_told files c.args.root.now (map (λ n. string_bytes n) c.args.names.now))
          c.name-item.result c.as_str.result.now c.loop-name.items.items
          c.loop-name-test.true c.name-item.is c.as_str.ensures.value
          (inv.told files is) c.load_name.new.items.items
          (c.in-Ok.ensures.steps files (inv.files ∙ is));
    }

pub returns-in-Err-clause-comes : goal.returns-in-Err-clause-comes
returns-in-Err-clause-comes g c = λ files is.
    let inv = c.loop-name.invariant in
    told_refused (λ n. string_bytes n) files c.args.root.now c.args.names.now
    c.loop-name.name-index
    (services_told files c.args.root.now (map (λ n. string_bytes n) c.args.names.now))
    c.name-item.result c.as_str.result.now c.loop-name.items.items
    c.loop-name-test.true c.name-item.is c.as_str.ensures.value
    (inv.told files is) c.load_name.new.items.items c.in-Err.fault
    (c.in-Err.ensures.steps files (inv.files ∙ is))

pub returns-in-Err-clause-cause : goal.returns-in-Err-clause-cause
returns-in-Err-clause-cause g c = refused_cause _ _ _ c.in-Err.fault c.loop-name.invariant.faults
    c.in-Err.ensures.cause

pub returns-clause-comes : goal.returns-clause-comes
returns-clause-comes g c = λ files is.
    told_end (λ n. string_bytes n) files c.args.root.now c.args.names.now c.loop-name.name-index
    (services_told files c.args.root.now (map (λ n. string_bytes n) c.args.names.now))
    c.loop-name.items.items c.loop-name-test.false (c.loop-name.invariant.told files is)

pub returns-clause-cause : goal.returns-clause-cause
returns-clause-cause g c =
    let same = c.loop-name.invariant.faults in record { later = omega (arith, same); count = same }

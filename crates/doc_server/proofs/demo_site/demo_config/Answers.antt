use Rattle.doc_server_config.specs.declared.config.ConfigError.TheVariants as config_errors
use Rattle.doc_server.proofs.Puts.{this_configuration, not_refused}
use Rattle.doc_server.proofs.demo_site.demo_config.Goals as goal

pub returns-in-Ok-clause-made : goal.returns-in-Ok-clause-made
returns-in-Ok-clause-made c = this_configuration c.in-Ok.config c.in-Ok.ensures.read

pub returns-in-Err-BadToml-clause-fault : goal.returns-in-Err-BadToml-clause-fault
returns-in-Err-BadToml-clause-fault c = absurd (not_refused c.in-Err-BadToml.field-0 config_errors.BadToml c.in-Err-BadToml.field-0-is
    (λ x. x) c.in-Err-BadToml.ensures.refused)

pub returns-in-Err-BadReaders-clause-fault : goal.returns-in-Err-BadReaders-clause-fault
returns-in-Err-BadReaders-clause-fault c = absurd (not_refused c.in-Err-BadReaders.field-0
    (config_errors.BadReaders c.in-Err-BadReaders.field-0-0) c.in-Err-BadReaders.field-0-is
    (λ x. x) c.in-Err-BadReaders.ensures.refused)

pub returns-in-Err-BadSetting-clause-fault : goal.returns-in-Err-BadSetting-clause-fault
returns-in-Err-BadSetting-clause-fault c = absurd (not_refused c.in-Err-BadSetting.field-0 config_errors.BadSetting
    c.in-Err-BadSetting.field-0-is (λ x. x) c.in-Err-BadSetting.ensures.refused)

pub returns-in-Err-BadPage-clause-fault : goal.returns-in-Err-BadPage-clause-fault
returns-in-Err-BadPage-clause-fault c = absurd (not_refused c.in-Err-BadPage.field-0 (config_errors.BadPage c.in-Err-BadPage.field-0-0)
    c.in-Err-BadPage.field-0-is (λ x. x) c.in-Err-BadPage.ensures.refused)

pub mod Recorders
pub mod TenantsRecorded
pub mod TenantRestarts
pub mod TenantCredits
